use Rattle.std.proofs.Common.{[], ◌∷◌, ◌++◌, sym, subst}
use Rattle.unl_publication.specs.declared.knowledge.Knowledge.{Knowledge}
use Rattle.unl_publication.specs.Rule.{IsKept}
use Rattle.unl_publication.proofs.Keeps.{admits, forks}
use Rattle.unl_publication.proofs.writer.fresh_seat.Goals as goal

pub seat_by-requires : goal.seat_by-requires
seat_by-requires g c = let P = g.met.P.Rules in let applied = g.T.Absorb.applied in let front = g.T.Counted.front_of in let allows = g.T.Counted.allows in let state = g.T.Absorb.state in record {
  admits = λ x views h. P.keeps x _ (subst (λ (f : Knowledge g.row.T-State.Denot g.row.I.Denot). IsKept applied front allows (state x) (views ++ f ∷ [])) (sym P.begins)
      (admits applied front allows (state x) views (P.kept x views h)));
  forks = λ x views h at. P.keeps x _ (forks applied front allows _ _ (state x) views (P.kept x views h) at);
}
