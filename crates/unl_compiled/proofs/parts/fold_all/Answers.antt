use Rattle.unl_compiled.proofs.Following.{step_more}
use Rattle.unl_compiled.proofs.parts.fold_all.Goals as goal

pub loop-event-preserved : goal.loop-event-preserved
loop-event-preserved c =
    let more = step_more c.args.events.now _ c.loop-event.now c.in_ok-now.now c.loop-event.event-index c.event-item.result
    c.loop-event-test.true c.event-item.is c.requires.events c.loop-event.invariant.order c.in_ok-now.ensures c.loop-event.invariant.rest in
    record { order = more.0; rest = more.1 }
