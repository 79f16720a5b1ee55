-- Readers of an orderly publication that never continued from a learned list, or only when they knew no board but the opening board.
use Rattle.std.proofs.Common.{◌≡◌, ℕ, ◌⊎◌, inl, inr, List, [], ◌∷◌, fold, length, Bool, true, false, leb, Option, Some, None, refl, sym, ap, ◌∙◌, subst, unwrap_or, All}
use Rattle.std.specs.Prelude.{if◌then◌else◌}
use mathlib.Core.Logic.{∥∥₁_map, ∥∥₁_map₂}
use Rattle.std.specs.Option.{option_and_then, option_map}
use Rattle.std.proofs.lemmas.List.Elements.{All-cons, All-head, All-nil, All-tail}
use Rattle.left_right.specs.declared.Absorb as absorb
use Rattle.unl_core.specs.declared.board.Board.{Board}
use Rattle.unl_core.specs.declared.board.Install.{Install}
use Rattle.unl_core.specs.DeskStates.{snapshot_at}
use Rattle.unl_edge_state.specs.declared.reader.EdgeReader.{EdgeReader}
use Rattle.unl_edge_state.specs.Editions.{BoardAt, edited, orderly_opening}
use Rattle.unl_edge_state.specs.Orderly.{is_orderly}
use Rattle.unl_edge_state.specs.Reading.{ContinuedFromOpening, HasBegun, IsNewReader, IsSteady, NeverFalls, ReadsOneList, SeesInOrder, board_of, continuation_of, past_of, seen_by}
use Rattle.unl_edge_state.proofs.Ordered.{below_from, ordered_known, reader_allowed, readers_in_order}
use Rattle.unl_publication.specs.declared.knowledge.Knowledge.{Knowledge}
use Rattle.unl_publication.specs.declared.reader.Reader.{Reader}
use Rattle.unl_publication.specs.declared.value.Counted as counted
use Rattle.unl_publication.specs.Looking.{SameOrigin, StaysOrTakes, Takes, continues_from, remembers}
use Rattle.unl_publication.specs.Meaning.{before_of, known, values}
use Rattle.unl_publication.specs.Rule.{knows_nothing, knows_opening}
use Rattle.unl_publication.specs.Seen.{next, past, seen}

-- ---- `ReadsOneList` after learning and after a look

alone : (past : Option (Knowledge BoardAt Install)) (now : Knowledge BoardAt Install) → past ≡ None → is_orderly now ≡ true
    → (now.before ≡ []) ⊎ (now.before ≡ now.opening ∷ []) → ReadsOneList past now
alone past now none orderly start = subst (λ (p : Option (Knowledge BoardAt Install)). ReadsOneList p now) (sym none) one
  where
    one : ReadsOneList None now
    one = record { orderly = orderly; opening = refl; seen = start; next = start }

same_opening : (o : Option BoardAt) → option_map (λ (b : BoardAt). fold edited b []) o ≡ o
same_opening None = refl
same_opening (Some b) = refl

-- Before the first install, the opening board is all that is known.
pub values_first : (now : Knowledge BoardAt Install) → now.installs ≡ [] → now.before ≡ [] → values edited now ≡ now.opening ∷ []
values_first now no_installs nothing =
    let bare : Knowledge BoardAt Install = record { table = now.table; opening = now.opening; installs = []; before = []; fronts = now.fronts } in
    let is : now ≡ bare = λ i. record { table = now.table; opening = now.opening; installs = no_installs i; before = nothing i; fronts = now.fronts } in
    ap (values edited) is ∙ ap (λ (o : Option BoardAt). o ∷ []) (same_opening now.opening)

is_orderly_by : (one two : Knowledge BoardAt Install) → one.opening ≡ two.opening → is_orderly two ≡ true → is_orderly one ≡ true
is_orderly_by one two same is = ap (λ (o : Option BoardAt). unwrap_or (option_map (λ (b : BoardAt). b.orderly) o) false) same ∙ is

-- `ReadsOneList` holds after a new reader learned from a report, which may have a list or not.
pub learned : (low : Bool) (list : Option (Knowledge BoardAt Install)) (now after : Knowledge BoardAt Install) (past_after : Option (Knowledge BoardAt Install))
    → is_orderly now ≡ true → now.installs ≡ [] → now.before ≡ [] → after.opening ≡ now.opening
    → after ≡ (if low then now else unwrap_or list now) → past_after ≡ (if low then None else unwrap_or (option_map (λ _. Some now) list) None)
    → ReadsOneList past_after after
learned true list now after past_after orderly no_installs nothing same after_is past_is =
    alone past_after after past_is (is_orderly_by after now same orderly) (inl (ap (λ (k : Knowledge BoardAt Install). k.before) after_is ∙ nothing))
learned false None now after past_after orderly no_installs nothing same after_is past_is =
    alone past_after after past_is (is_orderly_by after now same orderly) (inl (ap (λ (k : Knowledge BoardAt Install). k.before) after_is ∙ nothing))
learned false (Some list) now after past_after orderly no_installs nothing same after_is past_is =
    subst (λ (p : Option (Knowledge BoardAt Install)). ReadsOneList p after) (sym past_is) (record {
      orderly = is_orderly_by after now same orderly;
      opening = sym same;
      seen = inl nothing;
      next = inr (values_first now no_installs nothing ∙ ap (λ (o : Option BoardAt). o ∷ []) (sym same));
    })

-- A new reader is steady (`IsSteady`) after it learned from a report.
pub learns : (reader after : EdgeReader) (front : ℕ) (list : Option (Knowledge BoardAt Install)) → IsNewReader reader → SameOrigin (continuation_of after) (continuation_of reader)
    → continuation_of after ≡ continues_from front list (continuation_of reader) → past_of after ≡ remembers front list (past_of reader) (continuation_of reader) → IsSteady after
learns reader after front list new origin next_is past_is =
    learned (leb front (length (continuation_of reader).installs)) list (continuation_of reader) (continuation_of after) (past_of after) new.orderly new.installs new.before origin.1 next_is
    (past_is ∙ ap (λ (p : Option (Knowledge BoardAt Install)). remembers front list p (continuation_of reader)) new.past)

starts : (before given : List (Option BoardAt)) (opening same : Option BoardAt) → before ≡ given → opening ≡ same → (given ≡ []) ⊎ (given ≡ same ∷ [])
    → (before ≡ []) ⊎ (before ≡ opening ∷ [])
starts before given opening same is opens (inl none) = inl (is ∙ none)
starts before given opening same is opens (inr one) = inr (is ∙ one ∙ ap (λ (o : Option BoardAt). o ∷ []) (sym opens))

-- `ReadsOneList` still holds after a look.
pub looks : (past past_after : Option (Knowledge BoardAt Install)) (now after : Knowledge BoardAt Install) → StaysOrTakes edited past now past_after after
    → ReadsOneList past now → ReadsOneList past_after after
looks past past_after now after (inl same) h =
    subst (λ (p : Option (Knowledge BoardAt Install)). ReadsOneList p after) (sym same.0) (subst (λ (k : Knowledge BoardAt Install). ReadsOneList past k) (sym same.1) h)
looks past past_after now after (inr took) h =
    let opening : after.opening ≡ now.opening = ap (λ (k : Knowledge BoardAt Install). k.opening) took.1.same in
    alone past_after after took.0 (is_orderly_by after now opening h.orderly)
    (starts after.before (before_of edited past now) after.opening now.opening (ap (λ (k : Knowledge BoardAt Install). k.before) took.1.same) opening h.next)

-- ---- the effect of a look on a desk

-- The desk took a list, because the reader inside it looked and took the list.
pub took_left : (past_old past_seat late : Option (Knowledge BoardAt Install)) (old now after list : Knowledge BoardAt Install) → past_old ≡ past_seat → old ≡ now
    → late ≡ None → after ≡ list → Takes edited past_seat now list → StaysOrTakes edited past_old old late after
took_left past_old past_seat late old now after list past_is old_is none after_is takes =
    let one : Takes edited past_seat now after = subst (λ (k : Knowledge BoardAt Install). Takes edited past_seat now k) (sym after_is) takes in
    let two : Takes edited past_seat old after = subst (λ (k : Knowledge BoardAt Install). Takes edited past_seat k after) (sym old_is) one in
    inr (none, subst (λ (p : Option (Knowledge BoardAt Install)). Takes edited p old after) (sym past_is) two)

-- The desk stayed as it was or took a list, because the reader inside it did.
pub took_back : (past_old past_seat late : Option (Knowledge BoardAt Install)) (old now after : Knowledge BoardAt Install) → past_old ≡ past_seat → old ≡ now
    → StaysOrTakes edited past_seat now late after → StaysOrTakes edited past_old old late after
took_back past_old past_seat late old now after past_is old_is kept =
    let one : StaysOrTakes edited past_seat old late after =
    subst (λ (k : Knowledge BoardAt Install). StaysOrTakes edited past_seat k late after) (sym old_is) kept in
    subst (λ (p : Option (Knowledge BoardAt Install)). StaysOrTakes edited p old late after) (sym past_is) one

-- ---- what a steady reader sees

seen_at : {T P : Type 0} {c : counted.Ghosts T Install BoardAt} {a : absorb.Ghosts T Install BoardAt} (seat : Option (Reader T Install P BoardAt c a))
    → unwrap_or (option_map seen seat) knows_nothing ≡ known (option_and_then past seat) (unwrap_or (option_map next seat) knows_nothing)
seen_at None = refl
seen_at (Some seat) = refl

pub seen_is : (reader : EdgeReader) → seen_by reader ≡ known (past_of reader) (continuation_of reader)
seen_is reader = seen_at reader.seat

opened : (o : Option BoardAt) → unwrap_or (option_map (λ (b : BoardAt). b.orderly) o) false ≡ true → (b : BoardAt) × (o ≡ Some b)
opened None is = absurd cc
opened (Some b) is = (b, refl)

same_first : (reader : EdgeReader) → IsSteady reader → (seen_by reader).opening ≡ (continuation_of reader).opening
same_first reader h = ap (λ (k : Knowledge BoardAt Install). k.opening) (seen_is reader) ∙ h.opening

orderly_seen : (reader : EdgeReader) → IsSteady reader → is_orderly (seen_by reader) ≡ true
orderly_seen reader h = is_orderly_by (seen_by reader) (continuation_of reader) (same_first reader h) h.orderly

continued : (reader : EdgeReader) (b : BoardAt) → IsSteady reader → (seen_by reader).opening ≡ Some b → ContinuedFromOpening b (seen_by reader)
continued reader b h is =
    starts (seen_by reader).before (known (past_of reader) (continuation_of reader)).before (Some b) (continuation_of reader).opening
    (ap (λ (k : Knowledge BoardAt Install). k.before) (seen_is reader)) (sym is ∙ same_first reader h) h.seen

boards_in_order : (reader : EdgeReader) → IsSteady reader → NeverFalls (board_of (seen_by reader))
boards_in_order reader h j k slot first later up first_is later_is =
    let b = opened (seen_by reader).opening (orderly_seen reader h) in
    readers_in_order reader b.0 j k slot first later b.1 (orderly_seen reader h) (inl (continued reader b.0 h b.1)) up first_is later_is

-- A steady reader sees one orderly list, and boards on which versions never get older.
pub sees_in_order : (reader : EdgeReader) → ∥ IsSteady reader ∥₁ → SeesInOrder reader
sees_in_order reader h = record {
  list = ∥∥₁_map₂ (reader_allowed reader) h (λ allowed steady. ordered_known (seen_by reader).opening (seen_by reader).installs allowed (orderly_seen reader steady));
  boards = λ j k slot first later up first_is later_is.
      below_from (snapshot_at first.slots slot) (snapshot_at later.slots slot) (∥∥₁_map h (λ steady. boards_in_order reader steady j k slot first later up first_is later_is));
}

-- ---- new readers

-- A reader that `begin_orderly` creates is a new reader.
new_from : (begun : Knowledge BoardAt Install) (table : ℕ) (board : Board) (reader : EdgeReader) → begun ≡ knows_opening table (orderly_opening board)
    → HasBegun begun reader → IsNewReader reader
new_from begun table board reader is h =
    let now : continuation_of reader ≡ knows_opening table (orderly_opening board) = h.next ∙ is in record {
      orderly = ap is_orderly now;
      past = h.past;
      installs = ap (λ (k : Knowledge BoardAt Install). k.installs) now;
      before = ap (λ (k : Knowledge BoardAt Install). k.before) now;
    }

pub new_all : (begun : Knowledge BoardAt Install) (table : ℕ) (board : Board) (readers : List EdgeReader) → begun ≡ knows_opening table (orderly_opening board)
    → All (HasBegun begun) readers → All IsNewReader readers
new_all begun table board [] is all = All-nil IsNewReader
new_all begun table board (reader ∷ readers) is all =
    All-cons IsNewReader reader readers (new_from begun table board reader is (All-head (HasBegun begun) reader readers all))
    (new_all begun table board readers is (All-tail (HasBegun begun) reader readers all))
