-- The published board, and its changes. Each change is an install: a new token book, or a new version of the environment at a slot.
use Rattle.std.specs.Prelude.{ℕ, ◌+◌, Bool, true, false, [], option_map, unwrap_or}
use Rattle.unl_core.specs.declared.board.Board.{Board}
use Rattle.unl_core.specs.declared.board.Install.{Install}
use Rattle.unl_core.specs.Board.{board_after, installed}
use Rattle.unl_publication.specs.declared.knowledge.Knowledge.{Knowledge}

-- A board, the number of installs that led to it (its front), and whether the publication is orderly. In an orderly publication,
-- each version that is installed at a slot results from the slot's current version, if there is one, by one batch that applies.
pub record BoardAt : Type 0 where
  pub board : Board
  pub front : ℕ
  pub orderly : Bool

-- The opening board, before any install, of a publication that is orderly if the flag is true.
abbrev pub opening_of : Bool → Board → BoardAt
opening_of orderly board = record { board = board; front = 0; orderly = orderly }

-- The opening board of a publication that takes any install.
abbrev pub opening_at : Board → BoardAt
opening_at board = opening_of false board

-- The opening board of an orderly publication.
abbrev pub orderly_opening : Board → BoardAt
orderly_opening board = opening_of true board

-- The board and its front after one more install. Whether the publication is orderly doesn't change.
abbrev pub edited : BoardAt → Install → BoardAt
edited old what = record { board = installed what old.board; front = old.front + 1; orderly = old.orderly }

-- An empty board.
abbrev pub no_board : Board
no_board = record { boot = 0; host = []; generation = 0; book = []; slots = [] }

-- The published board as it is known: the opening board after all known installs, or `no_board` if no opening board is known.
abbrev pub board_known : Knowledge BoardAt Install → Board
board_known known = unwrap_or (option_map (λ opening. board_after opening.board known.installs) known.opening) no_board
