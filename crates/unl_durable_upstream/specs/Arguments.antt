-- What the program's arguments mean: the path of the database file, and the options of the command `upstream` of unl_edge.
use Rattle.std.specs.Prelude.{◌≡◌, ◌⊎◌, ⊤, ℕ, nat_lt, List, [], ◌∷◌, codes, if◌then◌else◌, Option, Some, None, Result, Ok, Err}
use Rattle.std.specs.Prelude.{string_bytes}
use Rattle.unl_durable_upstream.specs.declared.fault.ProgramFault.{ProgramFault}
use Rattle.unl_durable_upstream.specs.declared.fault.ProgramFault.TheVariants.{BadArguments, File, Row, Keeper, Door, Memory}
use Rattle.unl_durable_upstream.specs.declared.arguments.ProgramArguments.{ProgramArguments}
use Rattle.unl_words.specs.Words.{words_of}
use Rattle.unl_words.specs.declared.refusal.WordsRefusal.TheVariants.{Bad}
use Rattle.unl_words.specs.declared.words.Words.{Words}
use Rattle.unl_words.specs.declared.words.Words.TheVariants.{Replay, Check, Edge, Upstream, Follow, Explain, Load}

-- the number of connections after which the door closes; `None` (no limit) if the option `--connections` is 0
abbrev pub bound_of : ℕ → Option ℕ
bound_of connections = if nat_lt 0 connections then Some connections else None

-- the parsed arguments are those of a command other than `upstream`
abbrev pub NamesAnotherCommand : Words → Type 0
NamesAnotherCommand Replay = ⊤
NamesAnotherCommand (Check now word) = ⊤
NamesAnotherCommand (Edge words) = ⊤
NamesAnotherCommand (Upstream options) = ⊥
NamesAnotherCommand (Follow words) = ⊤
NamesAnotherCommand Explain = ⊤
NamesAnotherCommand (Load seed count) = ⊤

-- The first argument is the path, and the others are the options of `upstream`.
abbrev pub IsPathAndOptions : List (List ℕ) → ProgramArguments → Type 0
IsPathAndOptions [] arguments = ⊥
IsPathAndOptions (first ∷ others) arguments =
    (string_bytes arguments.path ≡ first) × (words_of (codes "upstream" ∷ others) ≡ Ok (Upstream arguments.options))

-- There are no arguments, or those after the first are not valid options of `upstream`.
abbrev pub AreBad : List (List ℕ) → Type 0
AreBad [] = ⊤
AreBad (first ∷ others) = (words_of (codes "upstream" ∷ others) ≡ Err Bad)
    ⊎ ((words : Words) × NamesAnotherCommand words × (words_of (codes "upstream" ∷ others) ≡ Ok words))

-- This is a possible result of reading these arguments. Memory can run out (`Memory`) for any arguments; `File`, `Row`, `Keeper` and
-- `Door` are never the result.
abbrev pub IsReading : List (List ℕ) → Result ProgramArguments ProgramFault → Type 0
IsReading words (Ok arguments) = IsPathAndOptions words arguments
IsReading words (Err BadArguments) = AreBad words
IsReading words (Err (File error)) = ⊥
IsReading words (Err (Row place)) = ⊥
IsReading words (Err Keeper) = ⊥
IsReading words (Err Door) = ⊥
IsReading words (Err Memory) = ⊤
