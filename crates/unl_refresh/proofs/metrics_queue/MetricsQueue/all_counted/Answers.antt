use Rattle.unl_refresh.proofs.Conserving.{settles}
use Rattle.unl_refresh.proofs.metrics_queue.MetricsQueue.all_counted.Goals as goal

pub learn_as-requires-clause-rule : goal.learn_as-requires-clause-rule
learn_as-requires-clause-rule c = settles _ _ c.requires.whole
