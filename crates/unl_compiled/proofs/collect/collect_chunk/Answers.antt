use Rattle.unl_compiled.specs.Toggles.{toggle_if_seen}
use Rattle.unl_compiled.proofs.Collecting.{collects_more}
use Rattle.unl_compiled.proofs.collect.collect_chunk.Goals as goal

pub loop-feature-preserved : goal.loop-feature-preserved
loop-feature-preserved g c =
    let same = c.as_slice-feature-items.ensures in
    collects_more g.S.ToggleSink.appends g.met.S.ToggleSink.joins (toggle_if_seen c.args.query.now) c.args.chunk.now c.loop-feature.feature-index c.feature-item.result c.feature-item.result
    _ _ _ (rw same at c.loop-feature-test.true) (rw same at c.feature-item.is) c.loop-feature.invariant (rw c.get.ensures at c.in_ok-collect_if_seen.ensures)
