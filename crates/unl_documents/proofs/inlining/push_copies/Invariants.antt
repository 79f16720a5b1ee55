use Rattle.std.proofs.Common.{◌≡◌, ◌++◌, take}
use Rattle.unl_documents.proofs.inlining.push_copies.Given as goal

abbrev pub invariant-loop-constraint : goal.invariant-loop-constraint
invariant-loop-constraint l = l.constraints ≡ l.fn.constraints ++ take l.constraint-index l.more
