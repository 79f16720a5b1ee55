-- Lemmas on slots of which each version so far is a revision of a line of histories.
use Rattle.std.proofs.Common.{◌≡◌, ℕ, zero, suc, ◌≤◌, List, [], ◌∷◌, ◌++◌, length, take, Option, Some, None, Result, Ok, Err, OnOk, OnErr, IfSome, refl, sym, subst, unwrap_or}
use Rattle.std.specs.Prelude.{option_map}
use Rattle.unl_core.specs.declared.board.Board.{Board}
use Rattle.unl_core.specs.declared.board.Install.{Install}
use Rattle.unl_core.specs.declared.board.Install.TheVariants.{Env}
use Rattle.unl_core.specs.declared.board.Slot.{Slot}
use Rattle.unl_core.specs.Board.{board_after, installed, taking}
use Rattle.unl_core.specs.DeskStates.{snapshot_at}
use Rattle.unl_delta.specs.declared.batch.Batch.{Batch}
use Rattle.unl_delta.specs.declared.batch.Verdict.TheVariants.{Apply}
use Rattle.unl_delta.specs.declared.version.EnvVersion.{EnvVersion}
use Rattle.unl_delta.specs.Batch.{next_version, verdict_of}
use Rattle.unl_delta.specs.History.{Era, PreservesLines, IsLine, IsSent, RepresentsLine}
use Rattle.unl_delta.specs.Installing.{place_of}
use Rattle.unl_delta.specs.View.{Sees}
use Rattle.unl_delta.proofs.Delivery.{next_follows}
use Rattle.unl_edge_state.specs.Editions.{BoardAt, board_known, no_board}
use Rattle.unl_edge_state.specs.Histories.{AlwaysRepresented, AlwaysRepresentedFrom, SlotRepresented}
use Rattle.unl_edge_state.specs.Reading.{ContinuedFromOpening, board_of}
use Rattle.unl_edge_state.specs.Writing.{Stays, Writing, writer_after_batch, installed_by}
use Rattle.unl_edge_state.proofs.Boards.{boards_are}
use Rattle.unl_publication.specs.declared.knowledge.Knowledge.{Knowledge}

-- If each version that the slot has had is a revision of the line, so is its version on the last board.
last_represented : (line : List Era) (sees : Sees) (slot : ℕ) (board : Board) (list : List Install) → AlwaysRepresentedFrom line sees slot board list
    → SlotRepresented line sees slot (board_after board list)
last_represented line sees slot board [] represented = represented
last_represented line sees slot board (what ∷ more) represented = last_represented line sees slot (installed what board) more represented.1

-- `AlwaysRepresentedFrom` still holds after one more install, if the slot's version on the new board is a revision of the line.
represented_more : (line : List Era) (sees : Sees) (slot : ℕ) (board : Board) (list : List Install) (what : Install) → AlwaysRepresentedFrom line sees slot board list
    → SlotRepresented line sees slot (installed what (board_after board list)) → AlwaysRepresentedFrom line sees slot board (list ++ what ∷ [])
represented_more line sees slot board [] what represented new = (represented, new)
represented_more line sees slot board (first ∷ more) what represented new = (represented.0, represented_more line sees slot (installed first board) more what represented.1 new)

-- If the slot exists and takes a revision of the line, its version is a revision of the line.
taken_represented : (line : List Era) (sees : Sees) (slots : List Slot) (slot : ℕ) (v : EnvVersion) → RepresentsLine line sees v → IfSome (snapshot_at (taking slot v slots) slot) (RepresentsLine line sees)
taken_represented line sees [] slot v represents = tt
taken_represented line sees (s ∷ slots) zero v represents = represents
taken_represented line sees (s ∷ slots) (suc slot) v represents = taken_represented line sees slots slot v represents

known_represented : (line : List Era) (sees : Sees) (slot : ℕ) (opening : Option BoardAt) (list : List Install) → IfSome opening (λ o. AlwaysRepresentedFrom line sees slot o.board list)
    → SlotRepresented line sees slot (unwrap_or (option_map (λ o. board_after o.board list) opening) no_board)
known_represented line sees slot None list represented = tt
known_represented line sees slot (Some opening) list represented = last_represented line sees slot opening.board list represented

known_more : (line : List Era) (sees : Sees) (slot : ℕ) (opening : Option BoardAt) (list : List Install) (v : EnvVersion) → IfSome opening (λ o. AlwaysRepresentedFrom line sees slot o.board list)
    → RepresentsLine line sees v → IfSome opening (λ o. AlwaysRepresentedFrom line sees slot o.board (list ++ Env slot v ∷ []))
known_more line sees slot None list v represented represents = tt
known_more line sees slot (Some opening) list v represented represents =
    represented_more line sees slot opening.board list (Env slot v) represented (taken_represented line sees (board_after opening.board list).slots slot v represents)

-- `AlwaysRepresented` still holds after a call that published a batch sent from the line, or failed and published nothing.
pub batch_represented : {E : Type 0} (r : Result ℕ E) (w new : Writing) (slot : ℕ) (batch : Batch) → (place_of (installed_by w) slot).version ≡ snapshot_at (board_known w.known).slots slot
    → verdict_of (place_of (installed_by w) slot) batch ≡ Apply → OnOk r (new ≡ record (writer_after_batch slot batch w) { closed = new.closed }) → OnErr r (Stays w new)
    → (line : List Era) (sees : Sees) → IsLine line → AlwaysRepresented line sees slot w.known → IsSent line sees batch → AlwaysRepresented line sees slot new.known
batch_represented (Err e) w new slot batch represents applies published stays line sees h represented sent = subst (λ (x : Writing). AlwaysRepresented line sees slot x.known) (sym stays) represented
batch_represented (Ok front) w new slot batch represents applies published stays line sees h represented sent =
    let v : EnvVersion = next_version (place_of (installed_by w) slot) batch in
    let before : IfSome (place_of (installed_by w) slot).version (RepresentsLine line sees) =
    subst (λ (o : Option EnvVersion). IfSome o (RepresentsLine line sees)) (sym represents) (known_represented line sees slot w.known.opening w.known.installs represented) in
    let follows : PreservesLines (place_of (installed_by w) slot).version batch (Some v) = next_follows (place_of (installed_by w) slot) batch v applies refl in
    subst (λ (x : Writing). AlwaysRepresented line sees slot x.known) (sym published)
    (known_more line sees slot w.known.opening w.known.installs v represented (follows.represents line sees h before sent))

-- ---- each board

represented_at : (line : List Era) (sees : Sees) (slot : ℕ) (board : Board) (list : List Install) (k : ℕ) → AlwaysRepresentedFrom line sees slot board list
    → SlotRepresented line sees slot (board_after board (take k list))
represented_at line sees slot board [] zero represented = represented
represented_at line sees slot board [] (suc k) represented = represented
represented_at line sees slot board (what ∷ more) zero represented = represented.0
represented_at line sees slot board (what ∷ more) (suc k) represented = represented_at line sees slot (installed what board) more k represented.1

-- On the board that is known at each front, the slot has no version or a revision of the line.
pub boards_represent : (line : List Era) (sees : Sees) (slot : ℕ) (known : Knowledge BoardAt Install) (opening : BoardAt) (k : ℕ) → known.opening ≡ Some opening
    → ContinuedFromOpening opening known → k ≤ length known.installs → AlwaysRepresented line sees slot known → IfSome (board_of known k) (SlotRepresented line sees slot)
boards_represent line sees slot known opening k is start low represented =
    let from : AlwaysRepresentedFrom line sees slot opening.board known.installs =
    subst (λ (o : Option BoardAt). IfSome o (λ (b : BoardAt). AlwaysRepresentedFrom line sees slot b.board known.installs)) is represented in
    subst (λ (o : Option Board). IfSome o (SlotRepresented line sees slot)) (sym (boards_are known opening k is start low)) (represented_at line sees slot opening.board known.installs k from)
