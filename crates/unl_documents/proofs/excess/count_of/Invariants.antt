use Rattle.std.proofs.Common.{◌≡◌, ◌+◌, length, drop}
use Rattle.std.specs.Prelude.{flat_map}
use Rattle.unl_documents.specs.Inline.{all_constraints, constraints_for}
use Rattle.unl_documents.proofs.excess.count_of.Given as goal

abbrev pub invariant-loop-id : goal.invariant-loop-id
invariant-loop-id l = l.count + length (flat_map (constraints_for l.fn.segments) (drop l.id-index l.fn.strategy.segments)) ≡ length (all_constraints l.fn.segments l.fn.strategy)
