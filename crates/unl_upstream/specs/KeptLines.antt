-- The effects of the lines of an upstream's input. Each line holds one command. The keeper stores each accepted command as a row
-- (the command is kept) before the upstream publishes it.
use Rattle.std.specs.Prelude.{◌≡◌, ℕ, ◌+◌, List, [], ◌∷◌, ◌++◌, length, map, codes, Option, option_map, Result, Ok, Err}
use Rattle.unl_documents.specs.FaultText.{fault_text}
use Rattle.unl_documents.specs.Reading.{Reading}
use Rattle.unl_input.specs.Taken.{LineResult, Taking}
use Rattle.unl_upstream.specs.Command.{command_in}
use Rattle.unl_upstream.specs.History.{accepted, after_commands}
use Rattle.unl_upstream.specs.Kept.{KeptState, kept_commands, with_room}
use Rattle.unl_upstream.specs.Upstream.{AppliedCommand, UpstreamState, apply_command}
use Rattle.unl_upstream.specs.declared.command.Command.{Command}
use Rattle.unl_upstream.specs.declared.refusal.KeepCommandRefusal.{KeepCommandRefusal}
use Rattle.unl_upstream.specs.declared.refusal.KeepCommandRefusal.TheVariants.{NoSuchEnvironment, NoSuchFeature}
use Rattle.unl_upstream.specs.declared.refusal.KeepCommandRefusal.TheVariants.{NoSuchSegment, TooMany, KeeperFull, KeeperFault, Memory}

-- the state between two lines: the upstream, the number of rows that its keeper has kept, and the commands in these rows, if they are
-- observable
pub record KeptLines : Type 0 where
  pub up : UpstreamState
  pub count : ℕ
  pub commands : Option (List Command)

-- the upstream of this state, the number of kept rows, and the commands in them
abbrev pub kept_lines_of : KeptState → KeptLines
kept_lines_of state = record { up = state.up; count = state.keeper.count; commands = kept_commands state.keeper }

-- the name of a refusal; empty for a fault of the keeper and for running out of memory, which refuse no line
abbrev pub refusal_name : KeepCommandRefusal → List ℕ
refusal_name NoSuchEnvironment = codes "NoSuchEnvironment"
refusal_name NoSuchFeature = codes "NoSuchFeature"
refusal_name NoSuchSegment = codes "NoSuchSegment"
refusal_name (TooMany n) = codes "TooMany"
refusal_name (KeeperFull n) = codes "KeeperFull"
refusal_name KeeperFault = []
refusal_name Memory = []

-- the state after one more command was accepted and kept
abbrev pub with_command : Command → AppliedCommand → KeptLines → KeptLines
with_command command obeyed kept_lines = record {
  up = obeyed.up;
  count = kept_lines.count + 1;
  commands = option_map (λ commands. commands ++ command ∷ []) kept_lines.commands;
}

-- the result of a line, from the result of keeping its command: a kept command prints nothing, a refused one gives the refusal's name
abbrev pub kept_as : Command → KeptLines → Result AppliedCommand KeepCommandRefusal → LineResult KeptLines
kept_as command kept_lines (Ok obeyed) = Ok (record { text = []; desk = with_command command obeyed kept_lines })
kept_as command kept_lines (Err refusal) = Err (refusal_name refusal)

-- the effect of keeping a command, unless the keeper fails or memory runs out
abbrev pub kept_one : Command → KeptLines → LineResult KeptLines
kept_one command kept_lines = kept_as command kept_lines (with_room kept_lines.count (apply_command command kept_lines.up))

-- the command of a line is kept; if the line can't be read as a command, the result is the text of the fault
abbrev pub kept_by : KeptLines → Reading Command → LineResult KeptLines
kept_by kept_lines (Ok command) = kept_one command kept_lines
kept_by kept_lines (Err fault) = Err (fault_text fault)

-- the effect of a line, unless the keeper fails or memory runs out
unfoldable pub kept_line : KeptLines → List ℕ → LineResult KeptLines
kept_line kept_lines line = kept_by kept_lines (command_in line)

-- as `kept_line`, whatever the line's number
abbrev pub keeping : Taking KeptLines
keeping number kept_lines line = kept_line kept_lines line

-- Each line holds one command. All commands are accepted, they lead from `before` to `after`, and they are kept after the earlier
-- commands.
pub record SpellKept (before : KeptLines) (spelling : List (List ℕ)) (after : KeptLines) : Type 0 where
  pub commands : List Command
  pub spelled : map command_in spelling ≡ map Ok commands
  pub all_accepted : accepted commands before.up ≡ commands
  pub leads : after.up ≡ after_commands commands before.up
  pub counted : after.count ≡ before.count + length commands
  pub kept : after.commands ≡ option_map (λ kept. kept ++ commands) before.commands
