use Rattle.std.proofs.Common.{◌≡◌, true, take}
use Rattle.std.specs.List.{list_all}
use Rattle.unl_dependencies.specs.Evaluation.{is_met}
use Rattle.unl_dependencies.proofs.dependencies.all_met.Given as goal

abbrev pub invariant-loop-dependency : goal.invariant-loop-dependency
invariant-loop-dependency g l = list_all (is_met (g.F.Features.state l.features) l.context l.moment) (take l.dependency-index l.dependencies) ≡ true
