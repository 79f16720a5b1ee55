use Rattle.unl_refresh.proofs.Conserving.{forks}
use Rattle.unl_refresh.proofs.metrics_queue.MetricsQueue.split_pass.Goals as goal

pub another-requires-clause-rule : goal.another-requires-clause-rule
another-requires-clause-rule c = forks _ _ c.requires.parts
