use Rattle.std.proofs.Common.{◌≡◌, take}
use Rattle.unl_compiled.proofs.parts.compiled_chunks.Given as goal

abbrev pub invariant-loop-chunk : goal.invariant-loop-chunk
invariant-loop-chunk l = l.all ≡ take l.chunk-index l.chunks
