use Rattle.std.proofs.Common.{get_or, refl}
use Rattle.unl_compiled.specs.Toggles.{toggle_at}
use Rattle.unl_compiled.proofs.Collecting.{collects_more}
use Rattle.unl_compiled.proofs.collect.collect_at.Goals as goal

pub loop-place-preserved : goal.loop-place-preserved
loop-place-preserved g c =
    let places = c.args.places.now in
    let i = c.loop-place.place-index in
    collects_more g.S.ToggleSink.appends g.met.S.ToggleSink.joins (toggle_at c.args.query.now) places i 0 (get_or places i 0)
    _ _ _ c.loop-place-test.true refl c.loop-place.invariant c.in_ok-collect_place.ensures
