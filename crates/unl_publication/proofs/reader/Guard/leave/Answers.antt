use Rattle.std.proofs.Common.{refl, sym, ap, ◌∙◌, subst, length}
use Rattle.unl_publication.specs.declared.knowledge.Knowledge.{Knowledge}
use Rattle.unl_publication.specs.Looking.{IsLooking}
use Rattle.unl_publication.proofs.Sure.{AreBothAllowed-alone, IsLooking-from, IsBetweenLooks-alone, KnowsAllowed-same}
use Rattle.unl_publication.proofs.reader.Guard.leave.Goals as goal

pub invariant_of-result : goal.invariant_of-result
invariant_of-result g c = let s = c.args.self in let same = c.leave.ensures.1 in record {
  counted = s.counted ∙ sym (ap (λ (v : Knowledge g.row.T-State.Denot g.row.I.Denot). length v.installs) same);
  between_looks = ∣ IsBetweenLooks-alone _ (subst (λ (v : Knowledge g.row.T-State.Denot g.row.I.Denot). IsLooking v) (sym same) (IsLooking-from _ s.is_looking)) ∣₁;
  allowed = AreBothAllowed-alone g.T.Absorb.applied g.T.Counted.allows _ _ refl (KnowsAllowed-same g.T.Absorb.applied g.T.Counted.allows _ _ same s.allowed);
}
