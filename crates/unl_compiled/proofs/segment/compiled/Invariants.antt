use Rattle.std.proofs.Common.{◌≡◌, take}
use Rattle.unl_compiled.proofs.segment.compiled.Given as goal

abbrev pub invariant-loop-constraint : goal.invariant-loop-constraint
invariant-loop-constraint l = l.all ≡ take l.constraint-index l.constraints
