use Rattle.std.proofs.Common.{ap, ◌∙◌, refl, sym, length}
use Rattle.left_right.specs.Sides.{view}
use Rattle.unl_publication.specs.declared.knowledge.Knowledge.{Knowledge}
use Rattle.unl_publication.proofs.Sure.{AreBothAllowed-alone, IsBetweenLooks-fresh, KnowsAllowed-shared, Shows-from}
use Rattle.unl_publication.proofs.new_readers.new_reader.Goals as goal

pub invariant_of-result : goal.invariant_of-result
invariant_of-result g c = let front = g.T.Counted.front_of in let e = c.in_ok-seat.ensures.seat in record {
  counted = c.front-front.ensures ∙ (ap (λ x. front (g.T.Absorb.state x)) c.published.ensures
      ∙ ((Shows-from g.T.Absorb.applied front g.row.T-State.coded _ _ c.args.writer.now.shows).front_is ∙ sym (ap (λ (v : Knowledge g.row.T-State.Denot g.row.I.Denot). length v.installs) e)));
  between_looks = ∣ IsBetweenLooks-fresh _ (ap (λ (v : Knowledge g.row.T-State.Denot g.row.I.Denot). v.fronts) e) (ap (λ (v : Knowledge g.row.T-State.Denot g.row.I.Denot). v.before) e) ∣₁;
  allowed = AreBothAllowed-alone g.T.Absorb.applied g.T.Counted.allows _ _ refl (KnowsAllowed-shared g.T.Absorb.applied g.T.Counted.allows (view c.args.writer.now.sides.desk.place) _ e c.args.writer.now.allowed);
}
