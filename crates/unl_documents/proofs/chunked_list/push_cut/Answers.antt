use Rattle.std.proofs.Common.{◌<◌, ◌≤◌, length, refl, arith}
use Rattle.std.specs.Slice.Iter.{chunks_size}
use Rattle.unl_documents.proofs.Joined.{part_more, full_more}
use Rattle.unl_documents.proofs.chunked_list.push_cut.Goals as goal

pub loop-part-preserved : goal.loop-part-preserved
loop-part-preserved g c =
    let l = c.loop-part in
    let steps = c.in-Some.ensures.steps in
    let part = c.in-Some.part.now in
    let large : 0 < chunks_size c.next.new.self = rw steps.0 l.invariant.2 in
    let inside : 1 ≤ length c.in-Some.part.now = rw steps.1.1 (omega (arith, l.invariant.2, steps.1.2)) in
    (large, tt, large, part_more l.chunks c.push_copy.new.chunks part part _ _ _ c.in_ok-push_copy.ensures.ok refl steps.1.0 l.invariant.3, full_more l.chunks c.push_copy.new.chunks part part c.in_ok-push_copy.ensures.ok refl inside l.invariant.4)
