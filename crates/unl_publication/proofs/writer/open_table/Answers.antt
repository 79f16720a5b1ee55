use Rattle.std.proofs.Common.{ap, ◌∙◌, fold}
use Rattle.unl_publication.proofs.Keeps.{opens}
use Rattle.unl_publication.proofs.writer.open_table.Goals as goal

pub publish_by-requires : goal.publish_by-requires
publish_by-requires g c = record {
  rule = λ next is views h at. let P = g.met.P.Rules in let applied = g.T.Absorb.applied in let front = g.T.Counted.front_of in let state = g.T.Absorb.state in let s = c.args.sides in
      let r = opens applied front g.T.Counted.allows g.K.AtTable.table _ _ (state s.desk.shown.value) (state next) c.requires.begins (is ∙ ap (fold applied (state s.desk.shown.value)) c.requires.pending) views (P.kept s.desk.shown.value views h) at in
      (r.0, P.keeps next _ r.1, r.2);
}
