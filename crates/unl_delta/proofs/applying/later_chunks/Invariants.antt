use Rattle.std.proofs.Common.{◌≡◌, take}
use Rattle.unl_documents.specs.Chunks.{joined, NoneIsEmpty}
use Rattle.unl_delta.specs.State.{entry_number, later}
use Rattle.unl_delta.proofs.applying.later_chunks.Given as goal

abbrev pub invariant-loop-chunk : goal.invariant-loop-chunk
invariant-loop-chunk l = (joined l.kept ≡ later entry_number l.number (joined (take l.chunk-index l.chunks))) × NoneIsEmpty l.kept
