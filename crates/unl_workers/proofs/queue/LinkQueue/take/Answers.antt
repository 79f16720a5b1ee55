use Rattle.std.proofs.Common.{◌<◌, sym, subst, arith}
use Rattle.unl_workers.specs.declared.tally.QueueTally.{QueueTally}
use Rattle.unl_workers.proofs.Balancing.{returns_end}
use Rattle.unl_workers.proofs.queue.LinkQueue.take.Goals as goal

pub push-requires-clause-rule : goal.push-requires-clause-rule
push-requires-clause-rule g c =
    let seen = sym c.in-End.ensures.takes in
    returns_end _ _ _ (subst (λ (v : QueueTally g.row.L.Denot). 0 < v.parts) seen c.requires.parts)
    (subst (λ (v : QueueTally g.row.L.Denot). 0 < v.ends_seen) seen (omega arith))
