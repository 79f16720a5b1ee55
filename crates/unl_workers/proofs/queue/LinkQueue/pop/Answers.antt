use Rattle.std.proofs.Common.{◌<◌, sym, subst}
use Rattle.unl_workers.specs.declared.tally.QueueTally.{QueueTally}
use Rattle.unl_workers.proofs.Balancing.{takes}
use Rattle.unl_workers.proofs.queue.LinkQueue.pop.Goals as goal

pub try_pop_as-requires-clause-rule : goal.try_pop_as-requires-clause-rule
try_pop_as-requires-clause-rule g c =
    takes _ _ (subst (λ (v : QueueTally g.row.L.Denot). 0 < v.parts) (sym c.loop.invariant.view) c.requires.parts)
