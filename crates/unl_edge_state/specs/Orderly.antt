-- Orderly lists of installs. An install changes a board: it sets a new token book, or a new version at a slot. In an orderly list each
-- version results from the slot's previous version, if there is one, by one batch of events that applies.
use Rattle.std.specs.Prelude.{◌≡◌, ℕ, Bool, true, false, ⊤, List, [], ◌∷◌, IfSome, option_map, unwrap_or}
use Rattle.unl_core.specs.declared.board.Board.{Board}
use Rattle.unl_core.specs.declared.board.Install.{Install}
use Rattle.unl_core.specs.declared.board.Install.TheVariants.{Tokens, Env}
use Rattle.unl_core.specs.Board.{installed}
use Rattle.unl_core.specs.DeskStates.{snapshot_at}
use Rattle.unl_delta.specs.declared.batch.Batch.{Batch}
use Rattle.unl_delta.specs.declared.batch.Verdict.TheVariants.{Apply}
use Rattle.unl_delta.specs.declared.version.EnvVersion.{EnvVersion}
use Rattle.unl_delta.specs.declared.version.Place.{Place}
use Rattle.unl_delta.specs.Batch.{next_version, verdict_of}
use Rattle.unl_edge_state.specs.Editions.{BoardAt, board_known}
use Rattle.unl_publication.specs.declared.knowledge.Knowledge.{Knowledge}

-- The version may be installed next at the slot: some batch applies at a place that has the slot's version (none if the slot has none), and
-- the version is the result of this batch. The place may be held or not.
pub record GoesOn (board : Board) (slot : ℕ) (version : EnvVersion) : Type 0 where
  pub place : Place
  pub represents : place.version ≡ snapshot_at board.slots slot
  pub batch : Batch
  pub applies : verdict_of place batch ≡ Apply
  pub next : version ≡ next_version place batch

-- The install may come next in an orderly list. A version must go on from the one at its slot (`GoesOn`). A token book may always come
-- next.
abbrev pub MayComeNext : Board → Install → Type 0
MayComeNext board (Tokens book) = ⊤
MayComeNext board (Env slot version) = GoesOn board slot version

-- The list is orderly: each install may come next on the board that results from the given board and the installs before it.
abbrev pub IsOrderly : Board → List Install → Type 0
IsOrderly board [] = ⊤
IsOrderly board (what ∷ more) = MayComeNext board what × IsOrderly (installed what board) more

-- If the opening board is known, the installs that are known to be published are an orderly list from the opening board on.
abbrev pub KnowsOrderly : Knowledge BoardAt Install → Type 0
KnowsOrderly known = IfSome known.opening (λ opening. IsOrderly opening.board known.installs)

-- The install may be published on this board. In an orderly publication, this requires `MayComeNext`; in any other, nothing.
abbrev pub AllowsInstall : BoardAt → Install → Type 0
AllowsInstall edition what = edition.orderly ≡ true → MayComeNext edition.board what

-- Whether the publication is known to be orderly: the `orderly` flag of its opening board, or false if that board is not known.
abbrev pub is_orderly : Knowledge BoardAt Install → Bool
is_orderly known = unwrap_or (option_map (λ opening. opening.orderly) known.opening) false

-- The install may be published next on the board after the known installs. If the publication is known to be orderly, this requires
-- `MayComeNext`; otherwise nothing.
abbrev pub MayInstall : Knowledge BoardAt Install → Install → Type 0
MayInstall known what = is_orderly known ≡ true → MayComeNext (board_known known) what

-- If the publication is known to be orderly, its known installs are an orderly list.
abbrev pub KeepsOrder : Knowledge BoardAt Install → Type 0
KeepsOrder known = is_orderly known ≡ true → KnowsOrderly known
