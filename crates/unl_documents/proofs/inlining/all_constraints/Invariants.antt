use Rattle.std.proofs.Common.{◌≡◌, ◌++◌, drop}
use Rattle.std.specs.Prelude.{flat_map}
use Rattle.unl_documents.specs.Inline.{all_constraints, constraints_for}
use Rattle.unl_documents.proofs.inlining.all_constraints.Given as goal

abbrev pub invariant-loop-id : goal.invariant-loop-id
invariant-loop-id l = l.constraints ++ flat_map (constraints_for l.fn.segments) (drop l.id-index l.fn.strategy.segments) ≡ all_constraints l.fn.segments l.fn.strategy
