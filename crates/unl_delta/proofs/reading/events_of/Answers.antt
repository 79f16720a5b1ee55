use Rattle.serde_json.specs.View.{items_view}
use Rattle.unl_delta.specs.Reading.{events_from}
use Rattle.unl_delta.proofs.Going.{goes_on, ends, is_done, each_more}
use Rattle.unl_delta.proofs.reading.events_of.Goals as goal

pub returns-in-Err-clause-gives : goal.returns-in-Err-clause-gives
returns-in-Err-clause-gives c =
    let values = c.args.values.now in
    ends c.in-Err.fault c.loop-place.events values c.loop-place.place c.loop-place.before c.index-values-place.result (events_from 0 0 (items_view values)) c.loop-place-test.true (rw (← c.index-values-place.is) c.in-Err.ensures.gives) c.loop-place.invariant.so_far

pub loop-place-preserved : goal.loop-place-preserved
loop-place-preserved c =
    let values = c.args.values.now in
    rw (c.in_ok-push-in-Ok.ensures.ok, c.number-before.ensures) record {
      so_far = goes_on c.loop-place.events values c.loop-place.place c.loop-place.before c.index-values-place.result c.in-Ok.event (events_from 0 0 (items_view values)) c.loop-place-test.true (rw (← c.index-values-place.is) c.in-Ok.ensures.gives) c.loop-place.invariant.so_far;
      valid = each_more c.loop-place.events c.in-Ok.event c.loop-place.invariant.valid c.in-Ok.ensures.valid;
    }

pub returns-clause-gives : goal.returns-clause-gives
returns-clause-gives c = is_done c.loop-place.events c.args.values.now c.loop-place.place c.loop-place.before (events_from 0 0 (items_view c.args.values.now)) c.loop-place-test.false c.loop-place.invariant.so_far
