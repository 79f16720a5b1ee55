use Rattle.unl_workers.proofs.Balancing.{forks}
use Rattle.unl_workers.proofs.queue.LinkQueue.split_pass.Goals as goal

pub another-requires-clause-rule : goal.another-requires-clause-rule
another-requires-clause-rule g c = forks _ _ c.requires.parts
