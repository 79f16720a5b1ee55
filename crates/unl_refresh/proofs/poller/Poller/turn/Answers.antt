use Rattle.std.proofs.Common.{◌≡◌, ap, arith, length, map}
use Rattle.unl_refresh.specs.SlotParameters.{tag_of}
use Rattle.unl_refresh.specs.Turns.{Duty}
use Rattle.unl_refresh.proofs.Connecting.{connects_both, one_and_more}
use Rattle.unl_refresh.proofs.TurnsTaken.{duty_kept, many_left, turn_left, turn_made, turn_stopped}
use Rattle.unl_refresh.proofs.poller.Poller.turn.Goals as goal

pub returns-in-Ok-clause-asks : goal.returns-in-Ok-clause-asks
returns-in-Ok-clause-asks g c room slots =
    let front = c.in-Ok.ensures.publishes_at_most_once.front in
    let places = c.in-Ok.ensures.publishes_at_most_once.places in
    let many : length c.self.inside.slot_pollers.items ≡ c.args.self.now.slots = ap (λ (d : Duty). d.slots) c.self.view_is in
    one_and_more _ _ _ c.poll_slots.result (omega (arith, many, c.deref_mut.ensures.len)) (c.in-Ok.ensures.asks (omega (arith, room)))
    (c.poll_slots.ensures.asks (omega (arith, room, front, many, c.deref_mut.ensures.len))
    (omega (arith, slots, places, many, c.deref_mut.ensures.len)))

pub returns-in-Ok-clause-connects : goal.returns-in-Ok-clause-connects
returns-in-Ok-clause-connects g c = connects_both c.in-Ok.ensures.connects c.poll_slots.ensures.connects

pub returns-in-Ok-clause-polls : goal.returns-in-Ok-clause-polls
returns-in-Ok-clause-polls g c room slots =
    let front = c.in-Ok.ensures.publishes_at_most_once.front in
    let places = c.in-Ok.ensures.publishes_at_most_once.places in
    let many : length c.self.inside.slot_pollers.items ≡ c.args.self.now.slots = ap (λ (d : Duty). d.slots) c.self.view_is in
    let count = many_left _ c.self.inside.slot_pollers.items c.poll_slots.new.slot_pollers c.deref_mut.ensures.value c.poll_slots.ensures.same in
    turn_left c.poll_slots.result c.args.self.now _ _ _ _ _ c.self.inside.slot_pollers.len c.poll_slots.new.slot_pollers _
    (omega (arith, count, ap length c.deref_mut.ensures.value, c.deref_mut.ensures.len))
    (turn_made c.poll_slots.result c.self.inside.known c.self.inside.upstream c.self.inside.book _ c.self.inside.slot_pollers.items
    c.args.self.now _ _ _ _ c.deref_mut.ensures.value c.self.view_is
    (c.in-Ok.ensures.polls (omega (arith, room)) _ _)
    (c.poll_slots.ensures.polls (omega (arith, room, front, many, c.deref_mut.ensures.len))
    (omega (arith, slots, places, many, c.deref_mut.ensures.len))))

pub returns-in-Err-clause-polls : goal.returns-in-Err-clause-polls
returns-in-Err-clause-polls g c room slots =
    turn_stopped c.self.inside.known c.self.inside.upstream c.self.inside.book c.self.inside.slot_pollers.items c.args.self.now _ _ _ _ c.self.view_is
    (c.in-Err.ensures.polls (omega (arith, room)) (map tag_of c.self.inside.slot_pollers.items) c.self.inside.book)

pub returns-in-Ok-clause-same : goal.returns-in-Ok-clause-same
returns-in-Ok-clause-same g c =
    let count = many_left _ c.self.inside.slot_pollers.items c.poll_slots.new.slot_pollers c.deref_mut.ensures.value c.poll_slots.ensures.same in
    duty_kept c.self.inside.known c.self.inside.upstream c.self.inside.book c.poll_slots.new.book c.args.self.now c.self.inside.slot_pollers.len
    _ c.self.inside.slot_pollers.items c.poll_slots.new.slot_pollers _ c.deref_mut.ensures.value c.poll_slots.ensures.same
    (omega (arith, count, ap length c.deref_mut.ensures.value, c.deref_mut.ensures.len)) c.self.view_is
