-- Orderly publications: what their writer may publish, and what their readers know.
use Rattle.std.proofs.Common.{◌≡◌, ℕ, zero, suc, ◌≤◌, inl, inr, List, [], ◌∷◌, length, take, fold, Bool, true, false, leb, Option, Some, None, IfSome, refl, sym, ap, ◌∙◌, subst, arith, unwrap_or}
use mathlib.Core.HLevel.{⊥_prop}
use mathlib.Core.Logic.{∥∥₁_elim, ∥∥₁_map}
use base.Stored.{Coded-set, coded_bool}
use Rattle.std.specs.Option.{option_map}
use Rattle.std.proofs.lemmas.Bool.Decides.{nat_tests}
use Rattle.left_right.specs.declared.Absorb as absorb
use Rattle.unl_core.specs.declared.board.Board.{Board}
use Rattle.unl_core.specs.declared.board.Install.{Install}
use Rattle.unl_core.specs.declared.board.Install.TheVariants.{Env}
use Rattle.unl_core.specs.Board.{board_after}
use Rattle.unl_core.specs.DeskStates.{snapshot_at}
use Rattle.unl_delta.specs.declared.batch.Batch.{Batch}
use Rattle.unl_delta.specs.declared.batch.Verdict.TheVariants.{Apply}
use Rattle.unl_delta.specs.declared.version.EnvVersion.{EnvVersion}
use Rattle.unl_delta.specs.declared.version.Place.{Place}
use Rattle.unl_delta.specs.Batch.{next_version, verdict_of}
use Rattle.unl_delta.specs.History.{IsNotBelow}
use Rattle.unl_delta.specs.Installing.{place_of}
use Rattle.unl_delta.specs.Revision.{revision_of}
use Rattle.unl_delta.proofs.Revisions.{not_older, up_to_is}
use Rattle.unl_edge_state.specs.declared.reader.EdgeReader.{EdgeReader}
use Rattle.unl_edge_state.specs.Editions.{BoardAt, board_known, edited, no_board}
use Rattle.unl_edge_state.specs.Orderly.{AllowsInstall, GoesOn, MayComeNext, IsOrderly, KeepsOrder, MayInstall, is_orderly}
use Rattle.unl_edge_state.specs.Reading.{IsOfList, board_of, seen_by}
use Rattle.unl_edge_state.specs.Writing.{Writing, installed_by}
use Rattle.unl_edge_state.proofs.Boards.{board_of_fold, boards_are}
use Rattle.unl_edge_state.proofs.GoingOn.{fronts_go_on}
use Rattle.unl_publication.specs.declared.knowledge.Knowledge.{Knowledge}
use Rattle.unl_publication.specs.declared.reader.Reader.{Reader}
use Rattle.unl_publication.specs.declared.value.Counted as counted
use Rattle.unl_publication.specs.Meaning.{item_or, some_if}
use Rattle.unl_publication.specs.Rule.{AreAllowed, KnowsAllowed, MayPublish, knows_nothing, with_installs}
use Rattle.unl_publication.specs.Seen.{seen}

-- ---- the writer

orderly_fold : (opening : BoardAt) (list : List Install) → (fold edited opening list).orderly ≡ opening.orderly
orderly_fold opening [] = refl
orderly_fold opening (what ∷ list) = orderly_fold (edited opening what) list

-- An install that may come next may be published.
pub may_publish : (known : Knowledge BoardAt Install) (what : Install) → MayInstall known what → MayPublish edited AllowsInstall known what
may_publish known what may opening is orderly =
    let says : is_orderly known ≡ true = ap (λ (o : Option BoardAt). unwrap_or (option_map (λ (b : BoardAt). b.orderly) o) false) is
    ∙ (sym (orderly_fold opening known.installs) ∙ orderly) in
    let shown : board_known known ≡ (fold edited opening known.installs).board =
    ap (λ (o : Option BoardAt). unwrap_or (option_map (λ (b : BoardAt). board_after b.board known.installs) o) no_board) is
    ∙ sym (board_of_fold opening known.installs) in
    subst (λ (b : Board). MayComeNext b what) shown (may says)

-- The version after a batch that applies may come next.
pub version_in_order : (w : Writing) (slot : ℕ) (batch : Batch) (p : Place) (v shown : EnvVersion) → place_of (installed_by w) slot ≡ p
    → (place_of (installed_by w) slot).version ≡ snapshot_at (board_known w.known).slots slot → verdict_of (place_of (installed_by w) slot) batch ≡ Apply
    → v ≡ next_version p batch → shown ≡ v → MayInstall w.known (Env slot shown)
version_in_order w slot batch p v shown here represents applies next shown_is = λ _. goes
  where
    goes : GoesOn (board_known w.known) slot shown
    goes = record {
      place = place_of (installed_by w) slot;
      represents = represents;
      batch = batch;
      applies = applies;
      next = shown_is ∙ next ∙ ap (λ (q : Place). next_version q batch) (sym here);
    }

-- ---- lists

ordered_list : (opening : BoardAt) (list : List Install) → AreAllowed edited AllowsInstall opening list → opening.orderly ≡ true → IsOrderly opening.board list
ordered_list opening [] allowed is = tt
ordered_list opening (what ∷ more) allowed is = (allowed.0 is, ordered_list (edited opening what) more allowed.1 is)

pub ordered_known : (opening : Option BoardAt) (list : List Install) → IfSome opening (λ o. AreAllowed edited AllowsInstall o list)
    → unwrap_or (option_map (λ (o : BoardAt). o.orderly) opening) false ≡ true → IfSome opening (λ o. IsOrderly o.board list)
ordered_known None list allowed is = tt
ordered_known (Some o) list allowed is = ordered_list o list allowed is

-- A list that a reader took, or that the writer published, is orderly in an orderly publication.
pub keeps_order : (taken now : Knowledge BoardAt Install) → now ≡ taken → KnowsAllowed edited AllowsInstall taken → KeepsOrder now
keeps_order taken now same allowed = subst KeepsOrder (sym same) (ordered_known taken.opening taken.installs allowed)

pub keeps_order_after : (known new : Knowledge BoardAt Install) (what : Install) → new ≡ with_installs (what ∷ []) known → KnowsAllowed edited AllowsInstall new → KeepsOrder new
keeps_order_after known new what is allowed = ordered_known new.opening new.installs allowed

-- ---- the boards that a reader knows

item_past : (before : List (Option BoardAt)) (k : ℕ) (other : Option BoardAt) → length before ≤ k → item_or before k other ≡ other
item_past [] k other past = refl
item_past (x ∷ before) zero other past = absurd (omega (arith, past))
item_past (x ∷ before) (suc k) other past = item_past before k other (omega (arith, past))

here_if : (p : Bool) (x : Option BoardAt) → p ≡ true → some_if p x ≡ x
here_if p x is = ap (λ (z : Bool). some_if z x) is

was_here : (p : Bool) (x : Option BoardAt) (board : Board) → option_map (λ (e : BoardAt). e.board) (some_if p x) ≡ Some board → p ≡ true
was_here true x board is = refl
was_here false x board is = absurd cc

-- If `IsOfList` is true of front `k`, the board at `k` is the opening board after the first `k` installs of the list.
board_is : (known : Knowledge BoardAt Install) (opening : BoardAt) (k : ℕ) → known.opening ≡ Some opening → IsOfList opening known k → k ≤ length known.installs
    → board_of known k ≡ Some (board_after opening.board (take k known.installs))
board_is known opening k is (inl start) low = boards_are known opening k is start low
board_is known opening k is (inr past) low =
    let within : leb k (length known.installs) ≡ true = grind (arith, nat_tests) in
    ap (option_map (λ (e : BoardAt). e.board)) (
    here_if (leb k (length known.installs)) _ within
    ∙ ap (λ (o : Option BoardAt). item_or known.before k (option_map (λ b. fold edited b (take k known.installs)) o)) is
    ∙ item_past known.before k (Some (fold edited opening (take k known.installs))) past)
    ∙ ap (λ (b : Board). Some b) (board_of_fold opening (take k known.installs))

pub low_front : (known : Knowledge BoardAt Install) (k : ℕ) (board : Board) → board_of known k ≡ Some board → k ≤ length known.installs
low_front known k board is =
    let within : leb k (length known.installs) ≡ true = was_here (leb k (length known.installs)) _ board is in
    grind (arith, nat_tests)

of_list_later : (opening : BoardAt) (known : Knowledge BoardAt Install) (j k : ℕ) → IsOfList opening known j → j ≤ k → IsOfList opening known k
of_list_later opening known j k (inl start) up = inl start
of_list_later opening known j k (inr past) up = inr (omega (arith, past, up))

pub same_board : (one two : Board) (known : Option Board) → known ≡ Some one → known ≡ Some two → two ≡ one
same_board one two known is also = let both : Some two ≡ Some one = sym also ∙ is in cc

-- ---- the order of versions follows from the mere existence of a proof of it

pub below_from : (old new : Option EnvVersion) → ∥ IsNotBelow old new ∥₁ → IsNotBelow old new
below_from None new h = tt
below_from (Some old) None h = ∥∥₁_elim h ⊥_prop (λ x. x)
below_from (Some old) (Some new) h =
    not_older (revision_of old) (revision_of new) (∥∥₁_elim h (Coded-set coded_bool _ _) (λ x. up_to_is (revision_of old) (revision_of new) x))

allowed_at : {T P : Type 0} {c : counted.Ghosts T Install BoardAt} {a : absorb.Ghosts T Install BoardAt} (seat : Option (Reader T Install P BoardAt c a))
    → ∥ KnowsAllowed a.applied c.allows (unwrap_or (option_map seen seat) knows_nothing) ∥₁
allowed_at None = ∣ tt ∣₁
allowed_at (Some seat) = ∥∥₁_map seat.allowed (λ x. x.seen)

-- Each install that a reader has seen is one that its publication allows.
pub reader_allowed : (reader : EdgeReader) → ∥ KnowsAllowed edited AllowsInstall (seen_by reader) ∥₁
reader_allowed reader = allowed_at reader.seat

in_order : (known : Knowledge BoardAt Install) (opening : BoardAt) (j k slot : ℕ) → known.opening ≡ Some opening → is_orderly known ≡ true → j ≤ k
    → KnowsAllowed edited AllowsInstall known
    → IsNotBelow (snapshot_at (board_after opening.board (take j known.installs)).slots slot) (snapshot_at (board_after opening.board (take k known.installs)).slots slot)
in_order known opening j k slot is orderly up allowed =
    let list : IsOrderly opening.board known.installs =
    subst (λ (o : Option BoardAt). IfSome o (λ (b : BoardAt). IsOrderly b.board known.installs)) is (ordered_known known.opening known.installs allowed orderly) in
    fronts_go_on opening.board known.installs j k slot list up

-- Of two boards that a reader knows, the one at the larger front has no older version, if the other is of the reader's list (`IsOfList`).
pub readers_in_order : (reader : EdgeReader) (opening : BoardAt) (j k slot : ℕ) (first later : Board) → (seen_by reader).opening ≡ Some opening
    → is_orderly (seen_by reader) ≡ true → IsOfList opening (seen_by reader) j → j ≤ k → board_of (seen_by reader) j ≡ Some first
    → board_of (seen_by reader) k ≡ Some later → IsNotBelow (snapshot_at first.slots slot) (snapshot_at later.slots slot)
readers_in_order reader opening j k slot first later is orderly of_list up first_is later_is =
    let known : Knowledge BoardAt Install = seen_by reader in
    let low : k ≤ length known.installs = low_front known k later later_is in
    let here : first ≡ board_after opening.board (take j known.installs) =
    same_board _ first (board_of known j) (board_is known opening j is of_list (omega (arith, up, low))) first_is in
    let there : later ≡ board_after opening.board (take k known.installs) =
    same_board _ later (board_of known k) (board_is known opening k is (of_list_later opening known j k of_list up) low) later_is in
    let below : IsNotBelow (snapshot_at (board_after opening.board (take j known.installs)).slots slot) (snapshot_at (board_after opening.board (take k known.installs)).slots slot) =
    below_from _ _ (∥∥₁_map (reader_allowed reader) (λ allowed. in_order known opening j k slot is orderly up allowed)) in
    subst (λ (b : Board). IsNotBelow (snapshot_at b.slots slot) (snapshot_at later.slots slot)) (sym here)
    (subst (λ (b : Board). IsNotBelow (snapshot_at (board_after opening.board (take j known.installs)).slots slot) (snapshot_at b.slots slot)) (sym there) below)
