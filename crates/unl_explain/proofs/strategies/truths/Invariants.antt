use Rattle.std.proofs.Common.{◌≡◌, map, take}
use Rattle.unl_constraints.specs.Constraint.{constraint_holds}
use Rattle.unl_explain.proofs.strategies.truths.Given as goal

abbrev pub invariant-loop-constraint : goal.invariant-loop-constraint
invariant-loop-constraint l = l.truths ≡ map (λ c. constraint_holds c l.context l.now) (take l.constraint-index l.constraints)
