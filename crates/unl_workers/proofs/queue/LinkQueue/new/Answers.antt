use Rattle.unl_workers.proofs.Balancing.{begins}
use Rattle.unl_workers.proofs.queue.LinkQueue.new.Goals as goal

pub ruled-requires-clause-rule : goal.ruled-requires-clause-rule
ruled-requires-clause-rule g c = begins
