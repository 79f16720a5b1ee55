-- The history of an environment of an upstream: the events of the commands that were accepted for this environment.
use Rattle.std.specs.Prelude.{◌≡◌, ℕ, ◌+◌, List, [], ◌∷◌, ◌++◌, length, filter, unwrap_or, Some, Ok, Err}
use Rattle.unl_core.specs.Board.{same_text, snapshot_in}
use Rattle.unl_delta.specs.declared.event.Event.{Event}
use Rattle.unl_delta.specs.declared.event.Event.TheVariants.{FeatureUpdated, FeatureRemoved, SegmentUpdated, SegmentRemoved}
use Rattle.unl_delta.specs.declared.version.EnvVersion.{EnvVersion}
use Rattle.unl_delta.specs.History.{Represents, everything}
use Rattle.unl_delta.specs.State.{empty_state, project_of, step}
use Rattle.unl_documents.specs.declared.state.State.{State}
use Rattle.unl_upstream.specs.declared.command.Command.{Command}
use Rattle.unl_upstream.specs.declared.command.Command.TheVariants.{PutFeature, RemoveFeature, PutSegment, RemoveSegment}
use Rattle.unl_upstream.specs.Command.{environment_of}
use Rattle.unl_upstream.specs.Upstream.{UpstreamState, CommandResult, AppliedCommand, apply_command}

-- ---- the accepted commands

-- the upstream after a command with this result; a refused command changes nothing
abbrev pub up_after : UpstreamState → CommandResult AppliedCommand → UpstreamState
up_after up (Ok obeyed) = obeyed.up
up_after up (Err refusal) = up

-- the upstream after one command
abbrev pub after_command : Command → UpstreamState → UpstreamState
after_command command up = up_after up (apply_command command up)

-- the upstream after commands, applied in order
abbrev pub after_commands : List Command → UpstreamState → UpstreamState
after_commands [] up = up
after_commands (command ∷ commands) up = after_commands commands (after_command command up)

-- these commands, preceded by `command` if it was accepted
abbrev pub if_accepted : Command → CommandResult AppliedCommand → List Command → List Command
if_accepted command (Ok obeyed) commands = command ∷ commands
if_accepted command (Err refusal) commands = commands

-- the commands that are accepted when all of them are applied in order; the refused ones are left out
abbrev pub accepted : List Command → UpstreamState → List Command
accepted [] up = []
accepted (command ∷ commands) up = if_accepted command (apply_command command up) (accepted commands (after_command command up))

-- the commands for one environment
abbrev pub for_environment : List ℕ → List Command → List Command
for_environment environment commands = filter (λ command. same_text (environment_of command) environment) commands

-- ---- their history

-- the event of a command, with the number `n`; the event of a removed feature has the project that the feature has in `s`, or an empty one
-- if `s` has no such feature
abbrev pub event_at : ℕ → State → Command → Event
event_at n s (PutFeature environment feature) = FeatureUpdated n feature
event_at n s (RemoveFeature environment name) = FeatureRemoved n name (unwrap_or (project_of name s.features) [])
event_at n s (PutSegment environment segment) = SegmentUpdated n segment
event_at n s (RemoveSegment environment id) = SegmentRemoved n id

-- the events of commands in order, numbered from n + 1 on; `s` is the state before the first one
abbrev pub events_from : ℕ → State → List Command → List Event
events_from n s [] = []
events_from n s (command ∷ commands) = event_at (n + 1) s command ∷ events_from (n + 1) (step (event_at (n + 1) s command) s) commands

-- the history of accepted commands for one environment, numbered from 1
abbrev pub history_of : List Command → List Event
history_of commands = events_from 0 empty_state commands

-- the version has this epoch, it represents the history of these commands, and its number is their count
pub record IsHistoryOf (epoch : ℕ) (commands : List Command) (v : EnvVersion) : Type 0 where
  pub era : v.epoch ≡ epoch
  pub represents : Represents (history_of commands) everything v
  pub number : v.number ≡ length commands

-- ---- what an upstream's versions represent

-- each environment's version, if there is one, has this epoch and represents the whole history of the commands for that environment
abbrev pub AreHistories : ℕ → List Command → UpstreamState → Type 0
AreHistories epoch commands up = (environment : List ℕ) (v : EnvVersion) → snapshot_in environment up.board.slots ≡ Some v
    → IsHistoryOf epoch (for_environment environment commands) v

-- if the versions of `up` represent the histories of some commands, then the versions of `after` represent the histories of
-- these commands followed by `more`
abbrev pub AreAdded : List Command → UpstreamState → UpstreamState → Type 0
AreAdded more up after = (epoch : ℕ) (commands : List Command) → AreHistories epoch commands up
    → AreHistories epoch (commands ++ more) after
