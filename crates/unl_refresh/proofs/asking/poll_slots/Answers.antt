use Rattle.std.proofs.Common.{◌<◌, ◌∙◌, arith, get_or, length}
use Rattle.std.proofs.lemmas.List.{length-set}
use Rattle.std.proofs.Math.Seq.{map-set_same}
use Rattle.unl_refresh.specs.SlotParameters.{parameters_of}
use Rattle.unl_refresh.specs.Turns.{PollsSlot, StopsAtSlot}
use Rattle.unl_refresh.proofs.Connecting.{connects_both}
use Rattle.unl_refresh.proofs.TurnsTaken.{polled_all, polled_here, polls_next, stops_here, stops_next}
use Rattle.unl_refresh.proofs.asking.poll_slots.Goals as goal

pub returns-in-Err-clause-connects : goal.returns-in-Err-clause-connects
returns-in-Err-clause-connects g c = connects_both c.loop-slot.invariant.connects c.in-Err.ensures.connects

pub returns-in-Err-clause-same : goal.returns-in-Err-clause-same
returns-in-Err-clause-same g c =
    map-set_same parameters_of c.loop-slot.slot_pollers c.loop-slot.slot c.poll_slot.new.slot_poller c.index-slot_pollers-slot.result
    c.in-Err.ensures.same ∙ c.loop-slot.invariant.same

pub returns-in-Err-clause-polls : goal.returns-in-Err-clause-polls
returns-in-Err-clause-polls g c room slots =
    let inside : c.loop-slot.slot < length c.loop-slot.slot_pollers = omega (arith, c.loop-slot.invariant.size, c.loop-slot-test.true, c.min-count.ensures) in
    stops_here c.loop-slot.slot_pollers c.args.slot_pollers.now c.loop-slot.slot c.index-slot_pollers-slot.result _ _ _ inside
    c.loop-slot.invariant.same (c.loop-slot.invariant.stops room)
    (polled_here (StopsAtSlot c.loop-slot.slot (parameters_of (get_or c.loop-slot.slot_pollers c.loop-slot.slot c.index-slot_pollers-slot.result)))
    c.loop-slot.slot_pollers c.loop-slot.slot c.index-slot_pollers-slot.result c.poll_slot.new.slot_poller _ _ _ _ _ _ inside
    (c.in-Err.ensures.polls (omega (arith, room, c.loop-slot.invariant.front, c.loop-slot-test.true, c.min-count.ensures))))

pub loop-slot-preserved : goal.loop-slot-preserved
loop-slot-preserved g c =
    let front = c.in-Ok.ensures.publishes_at_most_once.front in
    let inside : c.loop-slot.slot < length c.loop-slot.slot_pollers = omega (arith, c.loop-slot.invariant.size, c.loop-slot-test.true, c.min-count.ensures) in
    record {
      places = c.in-Ok.ensures.publishes_at_most_once.places ∙ c.loop-slot.invariant.places;
      front = omega (arith, c.loop-slot.invariant.front, front);
      size = length-set c.loop-slot.slot_pollers c.loop-slot.slot c.poll_slot.new.slot_poller ∙ c.loop-slot.invariant.size;
      same = map-set_same parameters_of c.loop-slot.slot_pollers c.loop-slot.slot c.poll_slot.new.slot_poller c.index-slot_pollers-slot.result
          c.in-Ok.ensures.same ∙ c.loop-slot.invariant.same;
      asks = λ room. connects_both (c.loop-slot.invariant.asks room)
          (c.in-Ok.ensures.asks (omega (arith, room, c.loop-slot.invariant.front, c.loop-slot-test.true, c.min-count.ensures)));
      connects = connects_both c.loop-slot.invariant.connects c.in-Ok.ensures.connects;
      polls = λ room. polls_next c.loop-slot.slot_pollers c.args.slot_pollers.now c.loop-slot.slot c.index-slot_pollers-slot.result _ _ _ inside
          c.loop-slot.invariant.same (c.loop-slot.invariant.polls room)
          (polled_here (PollsSlot c.loop-slot.slot (parameters_of (get_or c.loop-slot.slot_pollers c.loop-slot.slot c.index-slot_pollers-slot.result)))
          c.loop-slot.slot_pollers c.loop-slot.slot c.index-slot_pollers-slot.result c.poll_slot.new.slot_poller _ _ _ _ _ _ inside
          (c.in-Ok.ensures.polls (omega (arith, room, c.loop-slot.invariant.front, c.loop-slot-test.true, c.min-count.ensures))));
      stops = λ room. stops_next c.loop-slot.slot_pollers c.args.slot_pollers.now c.loop-slot.slot c.index-slot_pollers-slot.result _ _ _ inside
          c.loop-slot.invariant.same (c.loop-slot.invariant.stops room)
          (polled_here (PollsSlot c.loop-slot.slot (parameters_of (get_or c.loop-slot.slot_pollers c.loop-slot.slot c.index-slot_pollers-slot.result)))
          c.loop-slot.slot_pollers c.loop-slot.slot c.index-slot_pollers-slot.result c.poll_slot.new.slot_poller _ _ _ _ _ _ inside
          (c.in-Ok.ensures.polls (omega (arith, room, c.loop-slot.invariant.front, c.loop-slot-test.true, c.min-count.ensures))));
    }

pub returns-clause-polls : goal.returns-clause-polls
returns-clause-polls g c room slots =
    polled_all c.args.slot_pollers.now c.loop-slot.slot _ _ (omega (arith, slots, c.loop-slot-test.false, c.min-count.ensures))
    (c.loop-slot.invariant.polls room)
