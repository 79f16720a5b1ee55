use Rattle.std.proofs.Common.{ap, ◌∙◌, fold}
use Rattle.unl_publication.proofs.Keeps.{publishes}
use Rattle.unl_publication.proofs.writer.publish_given.Goals as goal

pub publish_by-requires : goal.publish_by-requires
publish_by-requires g c = record {
  rule = λ next is views h at. let P = g.met.P.Rules in let s = c.args.sides in
      let r = publishes g.T.Absorb.applied g.T.Counted.front_of g.T.Counted.allows g.met.T.Counted.counts _ _ g.K.Given.given (g.T.Absorb.state s.desk.shown.value) (g.T.Absorb.state next) c.requires.whole c.requires.allowed
      (is ∙ ap (fold g.T.Absorb.applied (g.T.Absorb.state s.desk.shown.value)) c.requires.pending) views (P.kept s.desk.shown.value views h) at in
      (r.0, P.keeps next _ r.1, r.2);
}
