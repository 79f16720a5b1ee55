use Rattle.std.proofs.Common.{◌≡◌, map, take}
use Rattle.unl_explain.specs.Reasons.{parent_reason}
use Rattle.unl_explain.proofs.parents.explain_parents.Given as goal

abbrev pub invariant-loop-dependency : goal.invariant-loop-dependency
invariant-loop-dependency l = l.parents ≡ map (parent_reason l.state l.context l.moment) (take l.dependency-index l.dependencies)
