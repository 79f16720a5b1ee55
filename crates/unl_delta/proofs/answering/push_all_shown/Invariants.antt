use Rattle.std.proofs.Common.{◌≡◌, ◌++◌, drop}
use Rattle.unl_delta.specs.State.{entry_number, later}
use Rattle.unl_delta.specs.View.{visible_events}
use Rattle.unl_tokens.specs.Names.{sees}
use Rattle.unl_delta.proofs.answering.push_all_shown.Given as goal

abbrev pub invariant-loop-entry : goal.invariant-loop-entry
invariant-loop-entry l = l.events ++ visible_events (sees l.projects) (later entry_number l.since (drop l.entry-index l.entries)) ≡ l.initial.events ++ visible_events (sees l.projects) (later entry_number l.since l.entries)
