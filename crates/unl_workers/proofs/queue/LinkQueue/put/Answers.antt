use Rattle.unl_workers.proofs.Balancing.{puts_link}
use Rattle.unl_workers.proofs.queue.LinkQueue.put.Goals as goal

pub push-requires-clause-rule : goal.push-requires-clause-rule
push-requires-clause-rule g c = puts_link _ _ _ _ c.requires.parts c.requires.may_put
