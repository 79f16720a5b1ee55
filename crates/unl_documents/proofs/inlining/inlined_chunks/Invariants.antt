use Rattle.std.proofs.Common.{◌≡◌, map, take}
use Rattle.unl_documents.specs.Inline.{inlined_feature}
use Rattle.unl_documents.specs.Chunks.{joined, NoneIsEmpty}
use Rattle.unl_documents.proofs.inlining.inlined_chunks.Given as goal

abbrev pub invariant-loop-chunk : goal.invariant-loop-chunk
invariant-loop-chunk l = (joined l.inlined ≡ map (inlined_feature l.segments) (joined (take l.chunk-index l.chunks))) × NoneIsEmpty l.inlined
