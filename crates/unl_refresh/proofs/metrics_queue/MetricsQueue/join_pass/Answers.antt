use Rattle.unl_refresh.proofs.Conserving.{merges}
use Rattle.unl_refresh.proofs.metrics_queue.MetricsQueue.join_pass.Goals as goal

pub absorb-requires-clause-rule : goal.absorb-requires-clause-rule
absorb-requires-clause-rule c = merges _ _ _ _ c.requires.parts
