use Rattle.std.proofs.Common.{◌≡◌, false, take}
use Rattle.std.specs.List.{list_any}
use Rattle.unl_constraints.specs.Texts.{has_part_at, folded}
use Rattle.unl_constraints.proofs.texts.has_some_part_once_folded.Given as goal

abbrev pub invariant-loop-value : goal.invariant-loop-value
invariant-loop-value l = list_any (λ value. has_part_at l.position l.text (folded value)) (take l.value-index l.values) ≡ false
