use Rattle.unl_workers.proofs.Balancing.{learns_all_taken}
use Rattle.unl_workers.proofs.queue.LinkQueue.all_taken.Goals as goal

pub learn_as-requires-clause-rule : goal.learn_as-requires-clause-rule
learn_as-requires-clause-rule g c = learns_all_taken _ _ c.requires.whole
