-- The definition of each command, by the command's name.
use Rattle.unl_words.specs.declared.name.CommandName.{CommandName}
use Rattle.unl_words.specs.declared.name.CommandName.TheVariants as name
use Rattle.unl_words.specs.Words.{CommandDefinition, check, edge, explain, follow, load, replay, upstream}

-- The definition of the command with this name.
unfoldable pub command_by : CommandName → CommandDefinition
command_by name.Replay = replay
command_by name.Check = check
command_by name.Edge = edge
command_by name.Upstream = upstream
command_by name.Follow = follow
command_by name.Explain = explain
command_by name.Load = load
