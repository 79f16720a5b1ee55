use Rattle.std.proofs.Common.{◌≡◌, take}
use Rattle.unl_compiled.proofs.parts.compiled_chunk.Given as goal

abbrev pub invariant-loop-feature : goal.invariant-loop-feature
invariant-loop-feature l = l.all ≡ take l.feature-index l.fn.chunk
