use Rattle.std.proofs.Common.{take}
use Rattle.unl_compiled.specs.Moving.{AllMoved}
use Rattle.unl_compiled.proofs.index_change.changed_each.Given as goal

abbrev pub invariant-loop-entry : goal.invariant-loop-entry
invariant-loop-entry l = AllMoved l.change (take l.entry-index l.index) l.new
