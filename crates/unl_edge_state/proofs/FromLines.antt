-- If each version that a slot has had came by a batch sent from a line of histories, each is a revision of the line.
use Rattle.std.proofs.Common.{◌≡◌, ℕ, zero, suc, ◌≤◌, List, [], ◌∷◌, length, take, map, Option, Some, None, IfSome, refl, sym, ap, ◌∙◌, subst}
use Rattle.std.specs.Prelude.{slice_get}
use Rattle.unl_core.specs.declared.board.Board.{Board}
use Rattle.unl_core.specs.declared.board.Install.{Install}
use Rattle.unl_core.specs.declared.board.Install.TheVariants.{Tokens, Env}
use Rattle.unl_core.specs.declared.board.Slot.{Slot}
use Rattle.unl_core.specs.Board.{board_after, empty_slot, installed, names_of, taking}
use Rattle.unl_core.specs.DeskStates.{snapshot_at}
use Rattle.unl_core.specs.Histories.{AllRepresented, AreLines, Histories, RepresentedAt, ShowsRevisions}
use Rattle.unl_core.proofs.Showing.{shows_revision}
use Rattle.unl_core.proofs.Slots.{names_kept}
use Rattle.unl_delta.specs.declared.version.EnvVersion.{EnvVersion}
use Rattle.unl_delta.specs.History.{Era, IsLine, PreservesLines, RepresentsLine}
use Rattle.unl_delta.specs.View.{Sees}
use Rattle.unl_delta.proofs.Delivery.{next_follows}
use Rattle.unl_edge_state.specs.declared.reader.EdgeReader.{EdgeReader}
use Rattle.unl_edge_state.specs.Editions.{BoardAt}
use Rattle.unl_edge_state.specs.Histories.{AllComeFromLine, AlwaysRepresented, AlwaysRepresentedFrom, ComesFromHistories, ComesFromLine}
use Rattle.unl_edge_state.specs.Histories.{GoesOnFromLine, SeesRevisions, SlotComesFromLine, SlotRepresented}
use Rattle.unl_edge_state.specs.Reading.{AnswersAfter, ContinuedFromOpening, board_of, seen_by}
use Rattle.unl_edge_state.proofs.Boards.{boards_are}
use Rattle.unl_edge_state.proofs.Ordered.{low_front, same_board}
use Rattle.unl_edge_state.proofs.Represented.{boards_represent}
use Rattle.unl_publication.specs.declared.knowledge.Knowledge.{Knowledge}

-- ---- a slot

empty_represented : (line : List Era) (sees : Sees) (slot : ℕ) (environments : List (List ℕ))
    → IfSome (snapshot_at (map empty_slot environments) slot) (RepresentsLine line sees)
empty_represented line sees slot [] = tt
empty_represented line sees zero (environment ∷ environments) = tt
empty_represented line sees (suc slot) (environment ∷ environments) = empty_represented line sees slot environments

-- Slots without a version represent any line.
pub empty_board : (line : List Era) (sees : Sees) (slot : ℕ) (board : Board) (environments : List (List ℕ))
    → board.slots ≡ map empty_slot environments → SlotRepresented line sees slot board
empty_board line sees slot board environments is =
    subst (λ (slots : List Slot). IfSome (snapshot_at slots slot) (RepresentsLine line sees)) (sym is)
    (empty_represented line sees slot environments)

-- After an install at the slot `i`, the version at `slot` represents the line if it did before and, where `i` is `slot`, the new one does.
taken_at : (line : List Era) (sees : Sees) (slots : List Slot) (i slot : ℕ) (v : EnvVersion)
    → IfSome (snapshot_at slots slot) (RepresentsLine line sees) → (i ≡ slot → RepresentsLine line sees v)
    → IfSome (snapshot_at (taking i v slots) slot) (RepresentsLine line sees)
taken_at line sees [] i slot v represents new = tt
taken_at line sees (s ∷ slots) zero zero v represents new = new refl
taken_at line sees (s ∷ slots) zero (suc slot) v represents new = represents
taken_at line sees (s ∷ slots) (suc i) zero v represents new = represents
taken_at line sees (s ∷ slots) (suc i) (suc slot) v represents new = taken_at line sees slots i slot v represents (λ same. new (ap suc same))

-- A version that goes on from a version of the line, by a batch sent from the line, represents the line.
goes_on : (line : List Era) (sees : Sees) (slot : ℕ) (board : Board) (v : EnvVersion) → IsLine line → SlotRepresented line sees slot board
    → GoesOnFromLine line sees board slot v → RepresentsLine line sees v
goes_on line sees slot board v h represented from =
    let follows : PreservesLines from.goes.place.version from.goes.batch (Some v) =
    next_follows from.goes.place from.goes.batch v from.goes.applies from.goes.next in
    follows.represents line sees h
    (subst (λ (o : Option EnvVersion). IfSome o (RepresentsLine line sees)) (sym from.goes.represents) represented) from.sent

-- If the slot's version represents the line, it does so after an install that comes from the line.
next_represented : (line : List Era) (sees : Sees) (slot : ℕ) (board : Board) (what : Install) → IsLine line
    → SlotRepresented line sees slot board → ComesFromLine line sees slot board what → SlotRepresented line sees slot (installed what board)
next_represented line sees slot board (Tokens book) h represented comes = represented
next_represented line sees slot board (Env i v) h represented comes =
    taken_at line sees board.slots i slot v represented (λ same. goes_on line sees slot board v h represented (comes same))

always_from : (line : List Era) (sees : Sees) (slot : ℕ) (board : Board) (list : List Install) → IsLine line
    → SlotRepresented line sees slot board → AllComeFromLine line sees slot board list → AlwaysRepresentedFrom line sees slot board list
always_from line sees slot board [] h represented come = represented
always_from line sees slot board (what ∷ more) h represented come = (
  represented,
  always_from line sees slot (installed what board) more h (next_represented line sees slot board what h represented come.0) come.1,
)

known_from : (line : List Era) (sees : Sees) (slot : ℕ) (opening : Option BoardAt) (list : List Install) → IsLine line
    → IfSome opening (λ o. SlotComesFromLine line sees slot o list)
    → IfSome opening (λ o. AlwaysRepresentedFrom line sees slot o.board list)
known_from line sees slot None list h comes = tt
known_from line sees slot (Some o) list h comes = always_from line sees slot o.board list h comes.0 comes.1

-- Each version that the slot has had represents the line, if each came from the line.
pub always_represented : (line : List Era) (sees : Sees) (slot : ℕ) (known : Knowledge BoardAt Install) → IsLine line
    → IfSome known.opening (λ opening. SlotComesFromLine line sees slot opening known.installs) → AlwaysRepresented line sees slot known
always_represented line sees slot known h comes = known_from line sees slot known.opening known.installs h comes

-- So do the versions on the boards that are known at each front.
pub boards_from_line : (line : List Era) (sees : Sees) (slot : ℕ) (known : Knowledge BoardAt Install) (opening : BoardAt) (k : ℕ)
    → IsLine line → known.opening ≡ Some opening → ContinuedFromOpening opening known → k ≤ length known.installs
    → SlotComesFromLine line sees slot opening known.installs → IfSome (board_of known k) (SlotRepresented line sees slot)
boards_from_line line sees slot known opening k h is start low comes =
    boards_represent line sees slot known opening k is start low (always_represented line sees slot known h
    (subst (λ (o : Option BoardAt). IfSome o (λ (b : BoardAt). SlotComesFromLine line sees slot b known.installs)) (sym is) comes))

-- ---- all slots of a board

names_after : (board : Board) (list : List Install) → names_of (board_after board list).slots ≡ names_of board.slots
names_after board [] = refl
names_after board (Tokens book ∷ more) = names_after (installed (Tokens book) board) more
names_after board (Env i v ∷ more) = names_after (installed (Env i v) board) more ∙ names_kept i v board.slots

-- Each slot represents the line of its environment, if the slots have the environments of `first`.
each_represented : (histories : Histories) (first now : List Slot) → names_of now ≡ names_of first
    → ((i : ℕ) (s : Slot) → slice_get first i ≡ Some s
    → IfSome (snapshot_at now i) (RepresentsLine (histories.line s.environment) (histories.sees s.environment)))
    → AllRepresented histories now
each_represented histories first [] names each = tt
each_represented histories [] (s ∷ now) names each = absurd cc
each_represented histories (f ∷ first) (s ∷ now) names each =
    let same : f.environment ≡ s.environment = cc in
    let others : names_of now ≡ names_of first = cc in (
      subst (λ (e : List ℕ). RepresentedAt histories e s.snapshot) same (each 0 f refl),
      each_represented histories first now others (λ i slot is. each (suc i) slot is),
    )

board_represented : (line : List Era) (sees : Sees) (slot : ℕ) (known : Option Board) (board : Board) → known ≡ Some board
    → IfSome known (SlotRepresented line sees slot) → SlotRepresented line sees slot board
board_represented line sees slot known board is represented =
    subst (λ (o : Option Board). IfSome o (SlotRepresented line sees slot)) is represented

-- Each board that is known at a front represents the lines of its environments, if the installs come from these.
pub boards_from_histories : (histories : Histories) (known : Knowledge BoardAt Install) (opening : BoardAt) (k : ℕ) (board : Board)
    → AreLines histories → known.opening ≡ Some opening → ContinuedFromOpening opening known
    → ComesFromHistories histories opening known.installs → board_of known k ≡ Some board → AllRepresented histories board.slots
boards_from_histories histories known opening k board lines is start comes here =
    let low : k ≤ length known.installs = low_front known k board here in
    let whole : board ≡ board_after opening.board (take k known.installs) =
    same_board _ board (board_of known k) (boards_are known opening k is start low) here in
    each_represented histories opening.board.slots board.slots
    (ap (λ (b : Board). names_of b.slots) whole ∙ names_after opening.board (take k known.installs))
    (λ i s at. board_represented (histories.line s.environment) (histories.sees s.environment) i (board_of known k) board here
    (boards_from_line (histories.line s.environment) (histories.sees s.environment) i known opening k (lines s.environment) is start low
    (comes i s at)))

-- ---- what a reader sees

shows : (histories : Histories) (board : Board) → AllRepresented histories board.slots → ShowsRevisions histories board
shows histories board all = λ q kind ready is. shows_revision histories board q kind ready all is

seen_revisions : (edition : Option BoardAt) (reader : EdgeReader) → (seen_by reader).opening ≡ edition
    → IfSome edition (λ opening. ContinuedFromOpening opening (seen_by reader)) → SeesRevisions edition reader
seen_revisions None reader is start = tt
seen_revisions (Some opening) reader is start = record {
  slots = λ line sees slot h comes front board here. board_represented line sees slot (board_of (seen_by reader) front) board here
      (boards_from_line line sees slot (seen_by reader) opening front h is start (low_front (seen_by reader) front board here) comes);
  tokens = λ histories lines comes front board here. shows histories board
      (boards_from_histories histories (seen_by reader) opening front board lines is start comes here);
}

-- A reader that began with a list of installs sees revisions.
pub sees_revisions : (edition : Option BoardAt) (installs : List Install) (reader : EdgeReader) → AnswersAfter edition installs reader
    → SeesRevisions edition reader
sees_revisions edition installs reader answers = seen_revisions edition reader answers.opening answers.continued
