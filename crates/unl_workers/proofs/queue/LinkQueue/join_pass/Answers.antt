use Rattle.unl_workers.proofs.Balancing.{merges}
use Rattle.unl_workers.proofs.queue.LinkQueue.join_pass.Goals as goal

pub absorb-requires-clause-rule : goal.absorb-requires-clause-rule
absorb-requires-clause-rule g c = merges _ _ _ _ c.requires.parts
