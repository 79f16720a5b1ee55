use Rattle.std.proofs.Common.{◌≡◌, ◌+◌, length, drop}
use Rattle.unl_documents.specs.Chunks.{joined}
use Rattle.unl_documents.proofs.chunked_list.item_count.Given as goal

abbrev pub invariant-loop-chunk : goal.invariant-loop-chunk
invariant-loop-chunk g l = l.count + length (joined (drop l.chunk-index l.chunks)) ≡ length (joined l.chunks)
