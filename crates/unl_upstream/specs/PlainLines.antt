-- The effect of the commands in an input's lines on an upstream without a keeper (a store of its commands).
use Rattle.std.specs.Prelude.{ℕ, List, [], codes, Ok, Err}
use Rattle.unl_documents.specs.FaultText.{fault_text}
use Rattle.unl_documents.specs.Reading.{Reading}
use Rattle.unl_input.specs.Taken.{LineResult, Taking}
use Rattle.unl_upstream.specs.declared.command.Command.{Command}
use Rattle.unl_upstream.specs.declared.refusal.CommandRefusal.{CommandRefusal}
use Rattle.unl_upstream.specs.declared.refusal.CommandRefusal.TheVariants.{NoSuchEnvironment, NoSuchFeature, NoSuchSegment, TooMany, Memory}
use Rattle.unl_upstream.specs.Command.{command_in}
use Rattle.unl_upstream.specs.Upstream.{UpstreamState, CommandResult, AppliedCommand, apply_command}

-- The name of a refusal. `Memory` (out of memory) is no reason to refuse a command, so its name is empty.
abbrev pub command_refusal_name : CommandRefusal → List ℕ
command_refusal_name NoSuchEnvironment = codes "NoSuchEnvironment"
command_refusal_name NoSuchFeature = codes "NoSuchFeature"
command_refusal_name NoSuchSegment = codes "NoSuchSegment"
command_refusal_name (TooMany n) = codes "TooMany"
command_refusal_name Memory = []

-- the result of a line, from the result of its command: an accepted command prints nothing, a refused one gives the refusal's name
abbrev pub obeyed_as : CommandResult AppliedCommand → LineResult UpstreamState
obeyed_as (Ok obeyed) = Ok (record { text = []; desk = obeyed.up })
obeyed_as (Err refusal) = Err (command_refusal_name refusal)

-- the command of a line is applied; if the line can't be read as a command, the result is the text of the fault
abbrev pub obeyed_by : UpstreamState → Reading Command → LineResult UpstreamState
obeyed_by up (Ok command) = obeyed_as (apply_command command up)
obeyed_by up (Err fault) = Err (fault_text fault)

-- the effect of a line on an upstream without a keeper
unfoldable pub obeyed_line : UpstreamState → List ℕ → LineResult UpstreamState
obeyed_line up line = obeyed_by up (command_in line)

-- the effect of a line on an upstream without a keeper, whatever the line's number
abbrev pub obeying : Taking UpstreamState
obeying number up line = obeyed_line up line
