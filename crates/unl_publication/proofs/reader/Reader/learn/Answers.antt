use Rattle.std.proofs.Common.{ap, ◌∙◌, sym, arith}
use Rattle.std.specs.Prelude.{option_map}
use Rattle.left_right.specs.Sides.{view}
use Rattle.unl_publication.specs.Meaning.{known}
use Rattle.unl_publication.proofs.Sure.{AreBothAllowed-learned, IsBetweenLooks-from, IsBetweenLooks-learned, at_some, nat_from}
use Rattle.unl_publication.proofs.reader.Reader.learn.Goals as goal

pub invariant_of-self-in-Some : goal.invariant_of-self-in-Some
invariant_of-self-in-Some g c = let s = c.args.self.now in
    let kept = c.last_look-past.ensures ∙ ap (λ o. known (option_map (λ s. view s.value.place) o) (view s.seat.place)) c.take.ensures.value in
    let counted = nat_from _ _ (at_some _ _ _ c.in-Some.is c.args.told.counted) in record {
      counted = sym counted;
      between_looks = ∣ IsBetweenLooks-learned {S = g.row.T-State.Denot} {I = g.row.I.Denot} _ _ _ _ (IsBetweenLooks-from {S = g.row.T-State.Denot} {I = g.row.I.Denot} _ _ s.between_looks)
          kept (omega (arith, c.if-front-self.false, counted, s.counted)) ∣₁;
      allowed = AreBothAllowed-learned {S = g.row.T-State.Denot} {I = g.row.I.Denot} g.T.Absorb.applied g.T.Counted.allows _ _ _ _ kept s.allowed
          (at_some _ _ _ c.in-Some.is c.args.told.allowed);
    }
