-- How a run of the program over a database file ends, for each result.
use Rattle.std.specs.Prelude.{◌≡◌, ◌⊎◌, ℕ, Bool, false, if◌then◌else◌, List, [], None, Result, Ok, Err}
use Rattle.unl_base.specs.Doors.{DoorState}
use Rattle.unl_base.specs.Draws.{TakesDraw}
use Rattle.unl_base.specs.declared.draws.Draw.{Draw}
use Rattle.unl_server.specs.Handling.{Coming}
use Rattle.unl_durable_upstream.specs.Beginning.{upstream_of}
use Rattle.unl_durable_upstream.specs.Faults.{IsOfDatabase}
use Rattle.unl_durable_upstream.specs.Arguments.{IsReading}
use Rattle.unl_durable_upstream.specs.Serving.{ReopeningEnds, Facing, code_of, facing}
use Rattle.unl_durable_upstream.specs.declared.fault.ProgramFault.{ProgramFault}
use Rattle.unl_durable_upstream.specs.declared.fault.ProgramFault.TheVariants.{BadArguments, File, Row, Keeper, Door, Memory}
use Rattle.unl_durable_upstream.specs.declared.arguments.ProgramArguments.{ProgramArguments}
use Rattle.unl_keeper.specs.State.{KeeperState}
use Rattle.unl_upstream.specs.Kept.{KeptState, kept_state}
use Rattle.unl_upstream.specs.Upstream.{UpstreamState}
use Rattle.unl_words.specs.declared.words.UpstreamArguments.{UpstreamArguments}

-- ---- one database

-- The keeper of a database before the keeper is opened: it has counted no row and no fault. Its rows are `None`, since the rows of a
-- database are not observable.
abbrev pub unopened : KeeperState
unopened = record { opened = false; faults = 0; count = 0; rows = None }

-- Serving the database (reopening the initial upstream from it, then serving links) ended with this result.
-- `before` and `after` have the door and the upcoming draws.
abbrev pub ServesDatabase : UpstreamState → ℕ → Result ℕ ProgramFault → Facing → Facing → Type 0
ServesDatabase initial port result before after =
    (last : KeptState) × ReopeningEnds (kept_state initial unopened) port result last before after

-- The database was served and, if serving succeeded, closed. `File`: serving succeeded, but closing the database failed. `Memory`:
-- memory ran out before the door listened or handed out a link; or serving succeeded, and memory ran out while closing the
-- database. `Row`, `Keeper` and `Door` are errors of serving. `BadArguments` is never the result.
abbrev pub ServesAndCloses : UpstreamState → ℕ → Result ℕ ProgramFault → Facing → Facing → Type 0
ServesAndCloses initial port (Ok served) before after = ServesDatabase initial port (Ok served) before after
ServesAndCloses initial port (Err BadArguments) before after = ⊥
ServesAndCloses initial port (Err (File error)) before after = (served : ℕ) × ServesDatabase initial port (Ok served) before after
ServesAndCloses initial port (Err (Row place)) before after = ServesDatabase initial port (Err (Row place)) before after
ServesAndCloses initial port (Err Keeper) before after = ServesDatabase initial port (Err Keeper) before after
ServesAndCloses initial port (Err Door) before after = ServesDatabase initial port (Err Door) before after
ServesAndCloses initial port (Err Memory) before after =
    (after.door ≡ before.door) ⊎ ((served : ℕ) × ServesDatabase initial port (Ok served) before after)

-- The first result is that of serving the database, the second that of serving and closing. If serving succeeded, the database is
-- closed, and the second result is the same number of links, or an error of closing. If serving failed, the second result is the
-- same error.
abbrev pub IsClosedWith : Result ℕ ProgramFault → Result ℕ ProgramFault → Type 0
IsClosedWith (Ok served) (Ok count) = count ≡ served
IsClosedWith (Ok served) (Err fault) = IsOfDatabase fault
IsClosedWith (Err fault) result = result ≡ Err fault

-- A draw was taken; its random word is the boot number of the upstream with these options. Then the database was served, and closed
-- if serving succeeded, with this result.
pub record RunsDatabase (options : UpstreamArguments) (result : Result ℕ ProgramFault) (before after : Facing) : Type 0 where
  pub draw : Draw
  pub coming : Coming
  pub drawn : TakesDraw before.coming draw coming
  pub initial : UpstreamState
  pub begins : initial ≡ upstream_of draw.word options
  pub ends : ServesAndCloses initial options.port result (facing before.door coming) after

-- ---- the program

-- nothing was served and no draw was taken, since the database could not be opened or memory ran out
abbrev pub IsUnserved : Result ℕ ProgramFault → Facing → Facing → Type 0
IsUnserved (Ok served) before after = ⊥
IsUnserved (Err fault) before after = IsOfDatabase fault × (after ≡ before)

-- A run over a database file ended with this result: either the database could not be opened or memory ran out, and no draw was
-- taken; or a draw was taken, and serving the database ended with this result, which may be an error.
pub record RunsFile (options : UpstreamArguments) (result : Result ℕ ProgramFault) (before after : Facing) : Type 0 where
  pub ends : IsUnserved result before after ⊎ RunsDatabase options result before after

-- the door has listened on no port, and no link was handed out or taken back
pub record IsNewDoor (door : DoorState) : Type 0 where
  pub silent : door.ports ≡ []
  pub given : door.given ≡ 0
  pub back : door.back ≡ 0

-- the arguments were read, and the program ran over the database file with a new door; the run ended with this result
pub record ReadsAndRuns (words : List (List ℕ)) (result : Result ℕ ProgramFault) : Type 0 where
  pub arguments : ProgramArguments
  pub reads : IsReading words (Ok arguments)
  pub before : Facing
  pub after : Facing
  pub is_new : IsNewDoor before.door
  pub runs : RunsFile arguments.options result before after

-- the arguments could not be read, with this error
abbrev pub IsUnread : List (List ℕ) → Result ℕ ProgramFault → Type 0
IsUnread words (Ok served) = ⊥
IsUnread words (Err fault) = IsReading words (Err fault)

-- how the program ends, for some list of arguments: the arguments could not be read, or the program ran over the database file
abbrev pub ProgramEnds : Result ℕ ProgramFault → Type 0
ProgramEnds result = (words : List (List ℕ)) × (IsUnread words result ⊎ ReadsAndRuns words result)

-- the exit code of the program: on success 0, or 5 if the number of served links could not be printed; on an error, the error's code
abbrev pub exit_code_of : Result ℕ ProgramFault → Bool → ℕ
exit_code_of (Ok served) printed = if printed then 0 else 5
exit_code_of (Err fault) printed = code_of fault
