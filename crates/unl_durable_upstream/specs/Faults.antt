-- The program's error for each error of the database.
use Rattle.std.specs.Prelude.{⊤}
use Rattle.sqlite.specs.declared.error.Error.{Error}
use Rattle.sqlite.specs.declared.error.Error.TheVariants.{SqliteFailure}
use Rattle.sqlite.specs.declared.error.ErrorCode.TheVariants.{OutOfMemory}
use Rattle.unl_durable_upstream.specs.declared.fault.ProgramFault.{ProgramFault}
use Rattle.unl_durable_upstream.specs.declared.fault.ProgramFault.TheVariants.{BadArguments, File, Row, Keeper, Door, Memory}

-- out of memory is `Memory`, any other error is `File`
abbrev pub fault_of : Error → ProgramFault
fault_of (SqliteFailure OutOfMemory) = Memory
fault_of error = File error

-- the error comes from opening or closing a database, or memory ran out
abbrev pub IsOfDatabase : ProgramFault → Type 0
IsOfDatabase BadArguments = ⊥
IsOfDatabase (File error) = ⊤
IsOfDatabase (Row place) = ⊥
IsOfDatabase Keeper = ⊥
IsOfDatabase Door = ⊥
IsOfDatabase Memory = ⊤
