use Rattle.std.proofs.Common.{ap, ◌∙◌, sym, length}
use Rattle.left_right.specs.Sides.{view}
use Rattle.unl_publication.specs.declared.knowledge.Knowledge.{Knowledge}
use Rattle.unl_publication.proofs.Sure.{KnowsAllowed-shared, Shows-from}
use Rattle.unl_publication.proofs.writer.Writer.tell.Goals as goal

pub invariant_of-result-2 : goal.invariant_of-result-2
invariant_of-result-2 g c = let front = g.T.Counted.front_of in let counted = c.front-front.ensures ∙ (ap (λ x. front (g.T.Absorb.state x)) c.published.ensures
    ∙ (Shows-from g.T.Absorb.applied front g.row.T-State.coded _ _ c.args.self.now.shows).front_is) in
    record {
      counted = ∣ ap (λ (v : Knowledge g.row.T-State.Denot g.row.I.Denot). length v.installs) c.in-Ok.ensures.seat ∙ sym counted ∣₁;
      allowed = KnowsAllowed-shared g.T.Absorb.applied g.T.Counted.allows (view c.args.self.now.sides.desk.place) _ c.in-Ok.ensures.seat c.args.self.now.allowed;
    }

pub returns-clause-front : goal.returns-clause-front
returns-clause-front g c = let front = g.T.Counted.front_of in c.front-front.ensures ∙ (ap (λ x. front (g.T.Absorb.state x)) c.published.ensures
    ∙ (Shows-from g.T.Absorb.applied front g.row.T-State.coded _ _ c.args.self.now.shows).front_is)
