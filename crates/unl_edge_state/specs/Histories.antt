-- States that each version that a slot of the board has had since the opening board is a revision of a line, or that each came by a batch
-- that can be sent from the line. A line has one history for each of several epochs.
use Rattle.std.specs.Prelude.{◌≡◌, ℕ, ⊤, List, [], ◌∷◌, Option, Some, IfSome, slice_get}
use Rattle.unl_core.specs.declared.board.Board.{Board}
use Rattle.unl_core.specs.declared.board.Install.{Install}
use Rattle.unl_core.specs.declared.board.Install.TheVariants.{Tokens, Env}
use Rattle.unl_core.specs.declared.board.Slot.{Slot}
use Rattle.unl_core.specs.Board.{installed}
use Rattle.unl_core.specs.DeskStates.{snapshot_at}
use Rattle.unl_core.specs.Histories.{AreLines, Histories, ShowsRevisions}
use Rattle.unl_delta.specs.declared.version.EnvVersion.{EnvVersion}
use Rattle.unl_delta.specs.History.{Era, IsLine, IsSent, RepresentsLine}
use Rattle.unl_delta.specs.View.{Sees}
use Rattle.unl_edge_state.specs.declared.reader.EdgeReader.{EdgeReader}
use Rattle.unl_edge_state.specs.Editions.{BoardAt}
use Rattle.unl_edge_state.specs.Orderly.{GoesOn}
use Rattle.unl_edge_state.specs.Reading.{board_of, seen_by}
use Rattle.unl_publication.specs.declared.knowledge.Knowledge.{Knowledge}

-- The version at a slot, if there is one, has the state of a revision of the line and the latest changes that led to that state, both
-- without the features of projects that aren't visible by `sees`.
abbrev pub SlotRepresented : List Era → Sees → ℕ → Board → Type 0
SlotRepresented line sees slot board = IfSome (snapshot_at board.slots slot) (RepresentsLine line sees)

-- `SlotRepresented` is true of this board, and of the board after each install of the list.
abbrev pub AlwaysRepresentedFrom : List Era → Sees → ℕ → Board → List Install → Type 0
AlwaysRepresentedFrom line sees slot board [] = SlotRepresented line sees slot board
AlwaysRepresentedFrom line sees slot board (what ∷ more) =
    SlotRepresented line sees slot board × AlwaysRepresentedFrom line sees slot (installed what board) more

-- If the opening board is known, `SlotRepresented` is true of the opening board, and of the board after each of the known installs.
abbrev pub AlwaysRepresented : List Era → Sees → ℕ → Knowledge BoardAt Install → Type 0
AlwaysRepresented line sees slot known = IfSome known.opening (λ opening. AlwaysRepresentedFrom line sees slot opening.board known.installs)

-- ---- slots whose batches were sent from a line

-- The version may be installed next at the slot (`GoesOn`), as the result of a batch that can be sent from the line.
pub record GoesOnFromLine (line : List Era) (sees : Sees) (board : Board) (slot : ℕ) (version : EnvVersion) : Type 0 where
  pub goes : GoesOn board slot version
  pub sent : IsSent line sees goes.batch

-- If the install is a version at this slot, it goes on from the slot's version by a batch sent from the line. There is no condition on a
-- token book, or on a version at another slot.
abbrev pub ComesFromLine : List Era → Sees → ℕ → Board → Install → Type 0
ComesFromLine line sees slot board (Tokens book) = ⊤
ComesFromLine line sees slot board (Env i version) = i ≡ slot → GoesOnFromLine line sees board slot version

-- Each version that the list installs at this slot results from the slot's version before it by a batch sent from the line. The first
-- install of the list changes the given board.
abbrev pub AllComeFromLine : List Era → Sees → ℕ → Board → List Install → Type 0
AllComeFromLine line sees slot board [] = ⊤
AllComeFromLine line sees slot board (what ∷ more) =
    ComesFromLine line sees slot board what × AllComeFromLine line sees slot (installed what board) more

-- The slot's version on the opening board, if there is one, represents the line, and each version that was installed at the slot since
-- then came by a batch sent from the line.
abbrev pub SlotComesFromLine : List Era → Sees → ℕ → BoardAt → List Install → Type 0
SlotComesFromLine line sees slot opening installs =
    SlotRepresented line sees slot opening.board × AllComeFromLine line sees slot opening.board installs

-- Each slot comes from the line of its environment (`SlotComesFromLine`), with the visible projects of the environment.
abbrev pub ComesFromHistories : Histories → BoardAt → List Install → Type 0
ComesFromHistories histories opening installs =
    (i : ℕ) (slot : Slot) → slice_get opening.board.slots i ≡ Some slot
    → SlotComesFromLine (histories.line slot.environment) (histories.sees slot.environment) i opening installs

-- Which revisions are on the boards that a reader has seen, if the versions in the list that it last saw came by batches sent from
-- lines. `opening` is the opening board.
pub record SeesRevisionsFrom (opening : BoardAt) (reader : EdgeReader) : Type 0 where
  -- If a slot comes from a line, each board has a revision of the line at the slot, or no version yet.
  pub slots : (line : List Era) (sees : Sees) (slot : ℕ) → IsLine line → SlotComesFromLine line sees slot opening (seen_by reader).installs
      → (front : ℕ) (board : Board) → board_of (seen_by reader) front ≡ Some board → SlotRepresented line sees slot board
  -- If each slot comes from the line of its environment, each token sees one revision of its environment's line on each board.
  pub tokens : (histories : Histories) → AreLines histories → ComesFromHistories histories opening (seen_by reader).installs
      → (front : ℕ) (board : Board) → board_of (seen_by reader) front ≡ Some board → ShowsRevisions histories board

-- `SeesRevisionsFrom` is true if the opening board `edition` is known.
abbrev pub SeesRevisions : Option BoardAt → EdgeReader → Type 0
SeesRevisions edition reader = IfSome edition (λ opening. SeesRevisionsFrom opening reader)
