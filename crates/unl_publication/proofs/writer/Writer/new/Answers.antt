use Rattle.std.proofs.Common.{[], ◌∷◌, ◌∙◌, ap, is_some, sym, subst}
use Rattle.left_right.specs.Sides.{view}
use Rattle.unl_publication.specs.declared.knowledge.Knowledge.{Knowledge}
use Rattle.unl_publication.specs.Rule.{IsKept}
use Rattle.unl_publication.proofs.Keeps.{starts}
use Rattle.unl_publication.proofs.Sure.{KnowsAllowed-opened, at_ok}
use Rattle.unl_publication.proofs.writer.Writer.new.Goals as goal

pub new-requires-clause-rule : goal.new-requires-clause-rule
new-requires-clause-rule g c = let P = g.met.P.Rules in let applied = g.T.Absorb.applied in let front = g.T.Counted.front_of in let value = g.T.Absorb.state c.args.first in
    P.keeps c.args.first _ (subst (λ (f : Knowledge g.row.T-State.Denot g.row.I.Denot). IsKept applied front g.T.Counted.allows value (f ∷ [])) (sym P.begins) (starts applied front g.T.Counted.allows value c.requires.begins))

pub invariant_of-result-clause-begun : goal.invariant_of-result-clause-begun
invariant_of-result-clause-begun g c =
    ap (λ (v : Knowledge g.row.T-State.Denot g.row.I.Denot). is_some v.opening) (at_ok _ _ _ _ c.in-Ok.is c.open_table-sides.ensures).2

pub invariant_of-result-clause-allowed : goal.invariant_of-result-clause-allowed
invariant_of-result-clause-allowed g c = let P = g.met.P.Rules in
    KnowsAllowed-opened g.T.Absorb.applied g.T.Counted.allows _ _ (view c.in_ok-sides.sides.desk.place) _ (c.in_ok-sides.ensures.2 ∙ P.begins)
    (at_ok _ _ _ _ c.in-Ok.is c.open_table-sides.ensures).2
