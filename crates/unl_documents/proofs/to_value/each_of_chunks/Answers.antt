use Rattle.std.proofs.Common.{◌≡◌, ◌∙◌}
use Rattle.unl_documents.proofs.Joined.{map_more}
use Rattle.unl_documents.proofs.to_value.each_of_chunks.Goals as goal

pub loop-chunk-preserved : goal.loop-chunk-preserved
loop-chunk-preserved g c =
    let chunk = c.chunk-item.result in
    let items : c.as_slice.result.now ≡ chunk = c.as_slice.ensures ∙ c.get.ensures in
    map_more g.W.ToValue.written c.args.chunks.now c.loop-chunk.chunk-index chunk _ _ c.loop-chunk-test.true c.chunk-item.is c.loop-chunk.invariant (rw items at c.in_ok-push_each.ensures)
