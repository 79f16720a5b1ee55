use Rattle.unl_refresh.proofs.Conserving.{puts}
use Rattle.unl_refresh.proofs.metrics_queue.MetricsQueue.put.Goals as goal

pub push_as-requires-clause-rule : goal.push_as-requires-clause-rule
push_as-requires-clause-rule g c = (puts _ _ _ _ c.requires.parts, λ items views kept at. tt)
