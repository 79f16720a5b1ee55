use Rattle.std.proofs.Common.{◌≡◌, true, take}
use Rattle.std.specs.List.{list_all}
use Rattle.unl_constraints.specs.Constraint.{constraint_holds}
use Rattle.unl_constraints.proofs.compiled.all_compiled_hold.Given as goal

abbrev pub invariant-loop-constraint : goal.invariant-loop-constraint
invariant-loop-constraint l = list_all (λ c. constraint_holds c l.context l.now) (take l.constraint-index l.constraints) ≡ true
