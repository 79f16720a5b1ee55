use Rattle.std.proofs.Common.{◌≡◌, map, take}
use Rattle.unl_constraints.specs.Texts.{compared}
use Rattle.unl_constraints.proofs.operand.compared_each.Given as goal

abbrev pub invariant-loop-text : goal.invariant-loop-text
invariant-loop-text l = l.all.items ≡ map (compared l.folded) (take l.text-index l.texts)
