use Rattle.std.proofs.Common.{◌≡◌, drop}
use Rattle.std.specs.Prelude.{slice_get}
use Rattle.unl_documents.specs.Chunks.{joined}
use Rattle.unl_documents.proofs.chunked_list.item_at.Given as goal

abbrev pub invariant-loop-chunk : goal.invariant-loop-chunk
invariant-loop-chunk g l = slice_get (joined (drop l.chunk-index l.chunks)) l.left ≡ slice_get (joined l.chunks) l.place
