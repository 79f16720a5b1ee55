use Rattle.unl_publication.proofs.Keeps.{greets}
use Rattle.unl_publication.proofs.writer.seat_by.Goals as goal

pub learn-requires-clause-rule : goal.learn-requires-clause-rule
learn-requires-clause-rule g c x views h at apart there = let P = g.met.P.Rules in
    P.keeps x _ (greets g.T.Absorb.applied g.T.Counted.front_of g.T.Counted.allows _ _ _ _ (g.T.Absorb.state x) views (P.kept x views h) at apart there)
