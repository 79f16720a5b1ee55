use Rattle.unl_refresh.proofs.Conserving.{begins}
use Rattle.unl_refresh.proofs.metrics_queue.MetricsQueue.new.Goals as goal

pub ruled-requires-clause-rule : goal.ruled-requires-clause-rule
ruled-requires-clause-rule c = begins
