use Rattle.std.proofs.Common.{rules}
use Rattle.unl_documents.specs.Inline.{inlined_feature}
use Rattle.unl_documents.proofs.Joined.{maps_next}
use Rattle.unl_documents.proofs.inlining.inlined_chunks.Goals as goal

pub loop-chunk-preserved : goal.loop-chunk-preserved
loop-chunk-preserved c =
    rw c.in_ok-push.ensures.ok (
    maps_next (inlined_feature c.args.segments.now) c.args.chunks.now c.loop-chunk.chunk-index c.chunk-item.result c.loop-chunk.inlined c.in_ok-new.field-0
    c.loop-chunk-test.true c.chunk-item.is c.requires (search rules) c.loop-chunk.invariant
    )
