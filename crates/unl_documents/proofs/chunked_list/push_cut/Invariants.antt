use Rattle.std.proofs.Common.{◌≡◌, ◌<◌, ◌++◌}
use Rattle.std.specs.Slice.Iter.{chunks_rest, chunks_size}
use Rattle.unl_documents.specs.Chunks.{joined, NoneIsEmpty}
use Rattle.unl_documents.proofs.chunked_list.push_cut.Given as goal

abbrev pub invariant-loop-part : goal.invariant-loop-part
invariant-loop-part g l =
    (goal.iterator-loop-part g).can_next l.part-iterator
    × (goal.iterator-loop-part g).is_finite l.part-iterator
    × (0 < chunks_size l.part-iterator)
    × (joined l.chunks ++ chunks_rest l.part-iterator ≡ joined l.fn.chunks ++ l.fn.items)
    × NoneIsEmpty l.chunks
