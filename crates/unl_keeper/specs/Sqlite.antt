-- The model of a keeper over a database, as contracts see it.
use Rattle.std.specs.Prelude.{ℕ, Bool, None}
use Rattle.unl_keeper.specs.State.{KeeperState}

-- the state of a SQLite keeper: whether it is open, the number of kept rows, and the fault count
pub record SqliteKeeperState : Type 0 where
  pub opened : Bool
  pub count : ℕ
  pub faults : ℕ

-- the state of a SQLite keeper as a `KeeperState`; the rows of a database are not observable
abbrev pub sqlite_state : SqliteKeeperState → KeeperState
sqlite_state keeper = record { opened = keeper.opened; faults = keeper.faults; count = keeper.count; rows = None }
