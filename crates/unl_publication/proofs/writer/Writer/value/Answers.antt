use Rattle.std.proofs.Common.{ap, ◌∙◌}
use Rattle.unl_publication.proofs.Sure.{Shows-from}
use Rattle.unl_publication.proofs.writer.Writer.value.Goals as goal

pub returns-clause-list : goal.returns-clause-list
returns-clause-list g c opening is = ap g.T.Absorb.state c.published.ensures
    ∙ (Shows-from g.T.Absorb.applied g.T.Counted.front_of g.row.T-State.coded _ _ c.args.self.now.shows).value_is opening is

pub returns-clause-front : goal.returns-clause-front
returns-clause-front g c = let front = g.T.Counted.front_of in ap (λ x. front (g.T.Absorb.state x)) c.published.ensures
    ∙ (Shows-from g.T.Absorb.applied front g.row.T-State.coded _ _ c.args.self.now.shows).front_is
