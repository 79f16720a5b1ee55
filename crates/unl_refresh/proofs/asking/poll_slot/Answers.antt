use Rattle.unl_refresh.proofs.Connecting.{connects_both, if_ok}
use Rattle.unl_refresh.proofs.TurnsTaken.{slot_polled, slot_stopped}
use Rattle.unl_refresh.specs.SlotParameters.{parameters_of, tag_of}
use Rattle.unl_refresh.proofs.asking.poll_slot.Goals as goal

pub returns-in-Ok-clause-asks : goal.returns-in-Ok-clause-asks
returns-in-Ok-clause-asks g c room = if_ok c.send_slot_metrics.result (connects_both (c.in-Ok.ensures.asks room) c.send_slot_metrics.ensures.connects)

pub returns-in-Ok-clause-connects : goal.returns-in-Ok-clause-connects
returns-in-Ok-clause-connects g c = connects_both c.in-Ok.ensures.connects c.send_slot_metrics.ensures.connects

pub returns-in-Ok-clause-polls : goal.returns-in-Ok-clause-polls
returns-in-Ok-clause-polls g c room tags at =
    slot_polled c.send_slot_metrics.result c.args.slot (parameters_of c.args.slot_poller.now) (parameters_of c.refresh_slot.new.slot_poller)
    (tag_of c.args.slot_poller.now) _ _ _ (c.in-Ok.ensures.polls room tags c.args.book.now) (c.send_slot_metrics.ensures.sends _ _)
    c.in-Ok.ensures.same at

pub returns-in-Err-clause-polls : goal.returns-in-Err-clause-polls
returns-in-Err-clause-polls g c room tags at =
    slot_stopped c.args.slot (parameters_of c.args.slot_poller.now) (tag_of c.args.slot_poller.now) _ _
    (c.in-Err.ensures.polls room tags c.args.book.now) at
