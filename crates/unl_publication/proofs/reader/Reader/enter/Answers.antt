use Rattle.std.proofs.Common.{arith, ap, ◌∙◌}
use Rattle.std.specs.Prelude.{option_map}
use Rattle.left_right.specs.Sides.{view}
use Rattle.unl_publication.specs.Meaning.{known, before_of}
use Rattle.unl_publication.proofs.Keeps.{enters}
use Rattle.unl_publication.proofs.Meant.{follows, refuses, stayed, took}
use Rattle.unl_publication.proofs.Sure.{IsBetweenLooks-from, IsBetweenLooks-rises, IsLooking-taken, Takes-from, Shows-entered}
use Rattle.unl_publication.proofs.reader.Reader.enter.Goals as goal

pub enter_past-requires-clause-rule : goal.enter_past-requires-clause-rule
enter_past-requires-clause-rule g c x views h at = let P = g.met.P.Rules in let s = c.args.self in let now = view s.seat.place in
    let past = option_map (λ s. view s.value.place) s.past in let applied = g.T.Absorb.applied in
    let r = enters applied g.T.Counted.front_of g.T.Counted.allows (before_of applied past now) (known past now).fronts s.seat.place.id now (g.T.Absorb.state x)
    (IsBetweenLooks-rises past now (IsBetweenLooks-from past now s.between_looks)) views (P.kept x views h) at in
    (r.0, P.keeps x _ r.1, r.2)

pub invariant_of-guard : goal.invariant_of-guard
invariant_of-guard g c = let applied = g.T.Absorb.applied in let front = g.T.Counted.front_of in let e = c.in-Ok.ensures in record {
  counted = c.front-front.ensures ∙ (ap (λ x. front (g.T.Absorb.state x)) c.get.ensures ∙ e.front_is);
  shows = ∣ Shows-entered applied front _ _ _ _ _ e ∣₁;
  is_looking = ∣ IsLooking-taken applied front _ _ _ (Takes-from applied front _ _ _ _ e) (IsBetweenLooks-from {S = g.row.T-State.Denot} {I = g.row.I.Denot} _ _ c.args.self.between_looks) ∣₁;
  allowed = ∣ e.allowed ∣₁;
}

pub invariant_of-guard-in-Ok : goal.invariant_of-guard-in-Ok
invariant_of-guard-in-Ok g c = let applied = g.T.Absorb.applied in let front = g.T.Counted.front_of in let e = c.in-Ok.ensures in record {
  counted = c.front-front.ensures ∙ (ap (λ x. front (g.T.Absorb.state x)) c.get.ensures ∙ e.front_is);
  shows = ∣ Shows-entered applied front _ _ _ _ _ e ∣₁;
  is_looking = ∣ IsLooking-taken applied front _ _ _ (Takes-from applied front _ _ _ _ e) (IsBetweenLooks-from {S = g.row.T-State.Denot} {I = g.row.I.Denot} _ _ c.args.self.between_looks) ∣₁;
  allowed = ∣ e.allowed ∣₁;
}

pub returns-then-front-least-clause-follows : goal.returns-then-front-least-clause-follows
returns-then-front-least-clause-follows g c = let applied = g.T.Absorb.applied in let front = g.T.Counted.front_of in
    (refuses applied c.args.self.least _ _ _ _ _ (IsBetweenLooks-from {S = g.row.T-State.Denot} {I = g.row.I.Denot} _ _ c.args.self.between_looks).ahead (Takes-from applied front _ _ _ _ c.in-Ok.ensures)
    (omega (arith, c.if-front-least.true, c.front-front.ensures, ap (λ x. front (g.T.Absorb.state x)) c.get.ensures, c.in-Ok.ensures.front_is))
    c.leave.ensures.past c.leave.ensures.same).0

pub returns-then-front-least-clause-refused : goal.returns-then-front-least-clause-refused
returns-then-front-least-clause-refused g c = let applied = g.T.Absorb.applied in let front = g.T.Counted.front_of in
    (refuses applied _ _ _ _ _ _ (IsBetweenLooks-from {S = g.row.T-State.Denot} {I = g.row.I.Denot} _ _ c.args.self.between_looks).ahead (Takes-from applied front _ _ _ _ c.in-Ok.ensures)
    (omega (arith, c.if-front-least.true, c.front-front.ensures, ap (λ x. front (g.T.Absorb.state x)) c.get.ensures, c.in-Ok.ensures.front_is))
    c.leave.ensures.past c.leave.ensures.same).1

pub returns-then-front-least-clause-kept : goal.returns-then-front-least-clause-kept
returns-then-front-least-clause-kept g c = let applied = g.T.Absorb.applied in let front = g.T.Counted.front_of in
    took applied _ _ _ _ _ (Takes-from applied front _ _ _ _ c.in-Ok.ensures) c.leave.ensures.past c.leave.ensures.same

pub returns-in-Err-clause-kept : goal.returns-in-Err-clause-kept
returns-in-Err-clause-kept g c = stayed g.T.Absorb.applied _ _ _ c.in-Err.ensures

pub returns-else-front-least-clause-follows : goal.returns-else-front-least-clause-follows
returns-else-front-least-clause-follows g c = let applied = g.T.Absorb.applied in let front = g.T.Counted.front_of in
    follows applied _ _ _ (IsBetweenLooks-from {S = g.row.T-State.Denot} {I = g.row.I.Denot} _ _ c.args.self.between_looks).ahead (Takes-from applied front _ _ _ _ c.in-Ok.ensures)

pub returns-else-front-least-clause-takes : goal.returns-else-front-least-clause-takes
returns-else-front-least-clause-takes g c = Takes-from g.T.Absorb.applied g.T.Counted.front_of _ _ _ _ c.in-Ok.ensures
