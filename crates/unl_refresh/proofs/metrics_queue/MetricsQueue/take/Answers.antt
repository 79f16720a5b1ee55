use Rattle.unl_refresh.proofs.Conserving.{takes}
use Rattle.unl_refresh.proofs.metrics_queue.MetricsQueue.take.Goals as goal

pub pop_as-requires-clause-rule : goal.pop_as-requires-clause-rule
pop_as-requires-clause-rule g c = (takes _ _ c.requires.parts, λ items views kept at. tt)
