use Rattle.unl_workers.proofs.Balancing.{puts_end}
use Rattle.unl_workers.proofs.queue.LinkQueue.close.Goals as goal

pub push-requires-clause-rule : goal.push-requires-clause-rule
push-requires-clause-rule g c = puts_end _ _ _ c.requires.parts c.requires.may_put
