use Rattle.std.proofs.Common.{◌≡◌, ◌≤◌, ◌-◌}
use Rattle.std.specs.Prelude.{option_map, IfSome}
use Rattle.unl_workers.specs.Periodic.{Turns}
use Rattle.unl_workers.proofs.periodic.make_turns.Given as goal

-- `made` turns were made so far
abbrev pub invariant-loop-made : goal.invariant-loop-made
invariant-loop-made g l = record {
  made : Turns g.N.PeriodicTask.turned l.made l.initial.turn l.turn;
  keeps : g.N.PeriodicTask.keeps l.initial.turn l.turn;
  had : IfSome (g.T.Pace.turns l.initial.pace) (λ most. l.made ≤ most);
  left : g.T.Pace.turns l.pace ≡ option_map (λ most. most - l.made) (g.T.Pace.turns l.initial.pace);
}
