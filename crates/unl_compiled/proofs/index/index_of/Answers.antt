use Rattle.unl_compiled.proofs.InChunks.{places_more}
use Rattle.unl_compiled.proofs.index.index_of.Goals as goal

pub loop-chunk-preserved : goal.loop-chunk-preserved
loop-chunk-preserved c p =
    places_more p c.args.chunks.now c.loop-chunk.chunk-index c.chunk-item.result _ _ _ c.loop-chunk.place c.in_ok-place.place c.loop-chunk-test.true c.chunk-item.is
    (rw c.get.ensures at (c.in_ok-place.ensures.places p)) (rw c.get.ensures at c.in_ok-place.ensures.next) (c.loop-chunk.invariant p)
