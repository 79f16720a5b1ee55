-- Readers that learned a list before their first look.
use Rattle.std.proofs.Common.{◌≡◌, ℕ, ◌≤◌, ◌+◌, ◌-◌, ◌⊎◌, inl, inr, List, [], ◌∷◌, ◌++◌, length, take, Bool, true, false, leb, Option, Some, None, is_some, IfSome, refl, sym, ap, ◌∙◌, subst, arith}
use Rattle.std.specs.Prelude.{if◌then◌else◌}
use Rattle.std.specs.Option.{option_map}
use Rattle.std.proofs.Math.Seq.{take-append-add}
use Rattle.std.proofs.lemmas.Bool.Decides.{nat_tests}
use Rattle.std.proofs.lemmas.List.{length-take-le}
use Rattle.unl_core.specs.declared.board.Board.{Board}
use Rattle.unl_core.specs.declared.board.Install.{Install}
use Rattle.unl_core.specs.Board.{board_after}
use Rattle.unl_edge_state.specs.declared.reader.EdgeReader.{EdgeReader}
use Rattle.unl_edge_state.specs.Continued.{Continued, continued_itself, starts_with, still_starts}
use Rattle.unl_edge_state.specs.Editions.{BoardAt, edited}
use Rattle.unl_edge_state.specs.Reading.{AnswersAfter, StartsReader, ContinuedFromOpening, ContinuesFrom, IsAfter, IsNewReader, board_of, continuation_of, past_of, seen_by}
use Rattle.unl_edge_state.proofs.Boards.{boards_are}
use Rattle.unl_edge_state.proofs.Looks.{seen_is, values_first}
use Rattle.unl_edge_state.proofs.Ordered.{low_front, same_board}
use Rattle.unl_publication.specs.declared.knowledge.Knowledge.{Knowledge}
use Rattle.unl_publication.specs.Looking.{SameOrigin, StaysOrTakes, continues_from, remembers}
use Rattle.unl_publication.specs.Meaning.{before_of, known}
use Rattle.unl_publication.specs.Rule.{StartsWith}
use Rattle.unl_publication.proofs.Sure.{nat_from}

-- ---- looks

pub itself : (reader : EdgeReader) → ContinuesFrom (past_of reader) (continuation_of reader) reader
itself reader = continued_itself (past_of reader) (continuation_of reader)

none_now : {A : Type 0} (o : Option A) → o ≡ None → is_some o ≡ true → ⊥
none_now None is there = absurd cc
none_now (Some x) is there = absurd cc

goes_on : (past past_before past_after : Option (Knowledge BoardAt Install)) (now before after : Knowledge BoardAt Install)
    → StaysOrTakes edited past_before before past_after after → Continued past now past_before before → Continued past now past_after after
goes_on past past_before past_after now before after (inl same) h =
    subst (λ (p : Option (Knowledge BoardAt Install)). Continued past now p after) (sym same.0)
    (subst (λ (k : Knowledge BoardAt Install). Continued past now past_before k) (sym same.1) h)
goes_on past past_before past_after now before after (inr took) h = (
  ap (λ (k : Knowledge BoardAt Install). k.opening) took.1.same ∙ h.0,
  still_starts now.installs before.installs after.installs h.1 took.1.seen,
  ap (λ (p : Option (Knowledge BoardAt Install)). before_of edited p after) took.0
      ∙ (ap (λ (k : Knowledge BoardAt Install). k.before) took.1.same ∙ h.2),
  λ there. absurd (none_now past_after took.0 there),
)

-- If a reader's state continues from an earlier state, its state after a look does so too.
pub continues : (past : Option (Knowledge BoardAt Install)) (now : Knowledge BoardAt Install) (before after : EdgeReader)
    → StaysOrTakes edited (past_of before) (continuation_of before) (past_of after) (continuation_of after) → ContinuesFrom past now before → ContinuesFrom past now after
continues past now before after look h = goes_on past (past_of before) (past_of after) now (continuation_of before) (continuation_of after) look h

-- The state after a look continues from the state before it.
pub looked : (past past_after : Option (Knowledge BoardAt Install)) (now after : Knowledge BoardAt Install)
    → StaysOrTakes edited past now past_after after → Continued past now past_after after
looked past past_after now after look =
    goes_on past past past_after now now after look (continued_itself past now)

-- ---- a new reader that learned a list

empty_by : (xs : List Install) → length xs ≤ 0 → xs ≡ []
empty_by [] low = refl
empty_by (x ∷ xs) low = absurd (omega (arith, low))

low_by : (m n : ℕ) → leb m n ≡ true → m ≤ n
low_by m n is = grind (arith, nat_tests)

-- Once a new reader has learned a list, it continues from the opening board and the installs of that list, and it knew no board but the
-- opening board before.
learned_list : (low : Bool) (list own after : Knowledge BoardAt Install) (past_after : Option (Knowledge BoardAt Install))
    → own.installs ≡ [] → own.before ≡ [] → own.opening ≡ list.opening → (low ≡ true → list.installs ≡ [])
    → after ≡ (if low then own else list) → past_after ≡ (if low then None else Some own)
    → (after.opening ≡ list.opening) × (after.installs ≡ list.installs)
    × ((before_of edited past_after after ≡ []) ⊎ (before_of edited past_after after ≡ list.opening ∷ []))
learned_list true list own after past_after no_installs nothing same none after_is past_is = (
  ap (λ (k : Knowledge BoardAt Install). k.opening) after_is ∙ same,
  ap (λ (k : Knowledge BoardAt Install). k.installs) after_is ∙ (no_installs ∙ sym (none refl)),
  inl (ap (λ (p : Option (Knowledge BoardAt Install)). before_of edited p after) past_is
      ∙ (ap (λ (k : Knowledge BoardAt Install). k.before) after_is ∙ nothing)),
)
learned_list false list own after past_after no_installs nothing same none after_is past_is = (
  ap (λ (k : Knowledge BoardAt Install). k.opening) after_is,
  ap (λ (k : Knowledge BoardAt Install). k.installs) after_is,
  inr (ap (λ (p : Option (Knowledge BoardAt Install)). before_of edited p after) past_is
      ∙ (values_first own no_installs nothing ∙ ap (λ (o : Option BoardAt). o ∷ []) same)),
)

-- A new reader that has learned a list starts from that list (`StartsReader`).
pub begins : (reader after : EdgeReader) (front : ℕ) (list : Knowledge BoardAt Install) → IsNewReader reader → SameOrigin list (continuation_of reader)
    → front ≡ length list.installs → seen_by after ≡ seen_by reader → continuation_of after ≡ continues_from front (Some list) (continuation_of reader)
    → past_of after ≡ remembers front (Some list) (past_of reader) (continuation_of reader) → StartsReader list.opening list.installs after
begins reader after front list new origin counted seen next_is past_is =
    let own : Knowledge BoardAt Install = continuation_of reader in
    let seen_own : seen_by after ≡ own = seen ∙ (seen_is reader ∙ ap (λ (p : Option (Knowledge BoardAt Install)). known p own) new.past) in
    let low_list : leb front (length own.installs) ≡ true → list.installs ≡ [] = λ low.
    empty_by list.installs (omega (arith, low_by front (length own.installs) low, ap (λ (xs : List Install). length xs) new.installs, counted)) in
    let parts = learned_list (leb front (length own.installs)) list own (continuation_of after) (past_of after) new.installs new.before (sym origin.1) low_list next_is
    (past_is ∙ ap (λ (p : Option (Knowledge BoardAt Install)). if leb front (length own.installs) then p else Some (known p own)) new.past) in
    record {
      opening = parts.0;
      list = parts.1;
      earlier = parts.2;
      seen_opening = ap (λ (k : Knowledge BoardAt Install). k.opening) seen_own ∙ sym origin.1;
      seen_before = ap (λ (k : Knowledge BoardAt Install). k.before) seen_own ∙ new.before;
      seen_none = ap (λ (k : Knowledge BoardAt Install). k.installs) seen_own ∙ new.installs;
    }

-- As `begins`, for a list from a report.
pub begins_told : (told : Option (Knowledge BoardAt Install)) (front : ℕ) (reader after : EdgeReader) → is_some told ≡ true
    → IfSome told (λ list. SameOrigin list (continuation_of reader))
    → ((list : Knowledge BoardAt Install) → told ≡ Some list → front ≡ length list.installs) → seen_by after ≡ seen_by reader
    → continuation_of after ≡ continues_from front told (continuation_of reader) → past_of after ≡ remembers front told (past_of reader) (continuation_of reader)
    → IsNewReader reader → (list : Knowledge BoardAt Install) × (told ≡ Some list) × StartsReader list.opening list.installs after
begins_told None front reader after there origin counted seen next_is past_is new = absurd cc
begins_told (Some list) front reader after there origin counted seen next_is past_is new =
    (list, refl, begins reader after front list new origin (counted list refl) seen next_is past_is)

-- The number of installs that a report states is the length of its list.
pub counted_by : {X : Type 0} (look : X → Knowledge BoardAt Install) (seat : Option X) (front : ℕ)
    → ∥ IfSome seat (λ (x : X). length (look x).installs ≡ front) ∥₁ → (list : Knowledge BoardAt Install) → option_map look seat ≡ Some list
    → front ≡ length list.installs
counted_by look None front counted list is = absurd cc
counted_by look (Some x) front counted list is =
    let both : Some (look x) ≡ Some list = is in
    let same : look x ≡ list = cc in
    sym (nat_from (length (look x).installs) front counted) ∙ ap (λ (k : Knowledge BoardAt Install). length k.installs) same

-- ---- the boards that a new reader answers from after it learned a list

-- What such a reader has seen has the opening board `edition`, and starts with `installs` if it is at least as long. No board but the
-- opening board was known before the reader continued from a learned list.
abbrev Sees : Option BoardAt → List Install → Knowledge BoardAt Install → Type 0
Sees edition installs seen =
    (seen.opening ≡ edition) × ((seen.before ≡ []) ⊎ (seen.before ≡ edition ∷ []))
    × (length installs ≤ length seen.installs → StartsWith seen.installs installs)

same_sum : (edition : Option BoardAt) (given before : List (Option BoardAt)) → before ≡ given → (given ≡ []) ⊎ (given ≡ edition ∷ [])
    → (before ≡ []) ⊎ (before ≡ edition ∷ [])
same_sum edition given before is (inl none) = inl (is ∙ none)
same_sum edition given before is (inr one) = inr (is ∙ one)

starts_empty : (installs xs : List Install) → xs ≡ [] → length installs ≤ length xs → StartsWith xs installs
starts_empty installs xs none low =
    let no_install : installs ≡ [] = empty_by installs (omega (arith, low, ap (λ (ys : List Install). length ys) none)) in
    ([], none ∙ ap (λ (ys : List Install). ys ++ []) (sym no_install))

sees : (edition : Option BoardAt) (installs : List Install) (past past_after : Option (Knowledge BoardAt Install)) (now after : Knowledge BoardAt Install)
    → now.opening ≡ edition → now.installs ≡ installs → (before_of edited past now ≡ []) ⊎ (before_of edited past now ≡ edition ∷ [])
    → (known past now).opening ≡ edition → (known past now).before ≡ [] → (known past now).installs ≡ []
    → Continued past now past_after after → Sees edition installs (known past_after after)
sees edition installs past None now after opens list earlier seen_opening seen_before seen_none h = (
  h.0 ∙ opens,
  same_sum edition (before_of edited past now) after.before h.2 earlier,
  λ low. starts_with installs after.installs (subst (λ (xs : List Install). take (length xs) after.installs ≡ xs) list h.1),
)
sees edition installs past (Some old) now after opens list earlier seen_opening seen_before seen_none h =
    let same : old ≡ known past now = ap (λ (o : Option (Knowledge BoardAt Install)). known o now) (h.3 refl) in (
      ap (λ (k : Knowledge BoardAt Install). k.opening) same ∙ seen_opening,
      inl (ap (λ (k : Knowledge BoardAt Install). k.before) same ∙ seen_before),
      starts_empty installs old.installs (ap (λ (k : Knowledge BoardAt Install). k.installs) same ∙ seen_none),
    )

continued_from : (edition : Option BoardAt) (seen : Knowledge BoardAt Install) → (seen.before ≡ []) ⊎ (seen.before ≡ edition ∷ [])
    → IfSome edition (λ opening. ContinuedFromOpening opening seen)
continued_from None seen start = tt
continued_from (Some opening) seen start = start

-- If a list starts with `installs`, so does each prefix of it that is at least as long as `installs`.
prefix_after : (installs rest whole : List Install) (front : ℕ) → whole ≡ installs ++ rest → length installs ≤ front
    → take front whole ≡ installs ++ take (front - length installs) rest
prefix_after installs rest whole front is low =
    let split : front ≡ length installs + (front - length installs) = omega (arith, low) in
    ap (take front) is ∙ (ap (λ (n : ℕ). take n (installs ++ rest)) split ∙ take-append-add installs rest (front - length installs))

after_list : (edition : Option BoardAt) (installs : List Install) (seen : Knowledge BoardAt Install) (front : ℕ) (board : Board) → Sees edition installs seen
    → length installs ≤ front → board_of seen front ≡ Some board → IsAfter edition installs front board
after_list None installs seen front board h low is = tt
after_list (Some opening) installs seen front board h low is =
    let within : front ≤ length seen.installs = low_front seen front board is in
    let starts : StartsWith seen.installs installs = h.2 (omega (arith, low, within)) in
    let shape = prefix_after installs starts.0 seen.installs front starts.1 low in
    let here : board ≡ board_after opening.board (take front seen.installs) =
    same_board _ board (board_of seen front) (boards_are seen opening front h.0 h.1 within) is in (
      take (front - length installs) starts.0,
      ap (λ (xs : List Install). length xs) (sym shape) ∙ length-take-le front seen.installs within,
      here ∙ ap (board_after opening.board) shape,
    )

-- A reader that started from these installs and has only looked since meets `AnswersAfter`.
pub answers_after : (edition : Option BoardAt) (installs : List Install) (reader later : EdgeReader) → StartsReader edition installs reader
    → ContinuesFrom (past_of reader) (continuation_of reader) later → AnswersAfter edition installs later
answers_after edition installs reader later start h =
    let here : seen_by reader ≡ known (past_of reader) (continuation_of reader) = seen_is reader in
    let all : Sees edition installs (seen_by later) = subst (λ (k : Knowledge BoardAt Install). Sees edition installs k) (sym (seen_is later))
    (sees edition installs (past_of reader) (past_of later) (continuation_of reader) (continuation_of later) start.opening start.list start.earlier
    (ap (λ (k : Knowledge BoardAt Install). k.opening) (sym here) ∙ start.seen_opening)
    (ap (λ (k : Knowledge BoardAt Install). k.before) (sym here) ∙ start.seen_before)
    (ap (λ (k : Knowledge BoardAt Install). k.installs) (sym here) ∙ start.seen_none) h) in
    record {
      opening = all.0;
      continued = continued_from edition (seen_by later) all.1;
      list = all.2;
      boards = λ front board low is. after_list edition installs (seen_by later) front board all low is;
    }
