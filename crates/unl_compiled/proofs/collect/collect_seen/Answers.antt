use Rattle.unl_compiled.specs.Toggles.{toggle_if_seen}
use Rattle.unl_compiled.proofs.Collecting.{collects_chunk}
use Rattle.unl_compiled.proofs.InChunks.{all_at}
use Rattle.unl_documents.specs.Valid.{IsValidFeature}
use Rattle.unl_compiled.proofs.collect.collect_seen.Goals as goal

pub collect_chunk-requires : goal.collect_chunk-requires
collect_chunk-requires g c = rw c.get.ensures (all_at IsValidFeature c.args.chunks.now c.loop-chunk.chunk-index c.chunk-item.result c.loop-chunk-test.true c.chunk-item.is c.loop-chunk.invariant.valid).0

pub loop-chunk-preserved : goal.loop-chunk-preserved
loop-chunk-preserved g c = record {
  valid = (all_at IsValidFeature c.args.chunks.now c.loop-chunk.chunk-index c.chunk-item.result c.loop-chunk-test.true c.chunk-item.is c.loop-chunk.invariant.valid).1;
  appended = collects_chunk g.S.ToggleSink.appends g.met.S.ToggleSink.joins (toggle_if_seen c.args.query.now) c.args.chunks.now c.loop-chunk.chunk-index c.chunk-item.result
      _ _ _ c.loop-chunk-test.true c.chunk-item.is c.loop-chunk.invariant.appended (rw c.get.ensures at c.in_ok-collect_chunk.ensures);
}
