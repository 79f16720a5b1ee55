use Rattle.std.proofs.Common.{◌≡◌}
use Rattle.unl_refresh.specs.MetricsQueues.{Merges}
use Rattle.unl_refresh.proofs.metrics_receiver.MetricsReceiver.merge_into.Given as goal

-- what was taken so far is merged or held
abbrev pub invariant-loop : goal.invariant-loop
invariant-loop g l = record {
  same : l.self ≡ record l.initial.self { intake = l.self.intake };
  merges : Merges l.initial.book l.initial.self.intake l.book l.self.intake;
}
