use Rattle.unl_refresh.proofs.Connecting.{asked_once, none_or_one, slot_result_at_most_once}
use Rattle.unl_refresh.proofs.TurnsTaken.{slot_refreshed}
use Rattle.unl_refresh.proofs.asking.refresh_slot.Goals as goal

pub returns-clause-asks : goal.returns-clause-asks
returns-clause-asks g c room =
    let leaves = c.refresh_once-refreshed.ensures.leaves in
    let causes = c.refresh_once-refreshed.ensures.causes in
    asked_once _ _ _ _ _ c.refresh_once-refreshed.result c.unless_memory.result c.unless_memory.ensures.ok leaves.asks causes.cause causes.later

pub returns-clause-connects : goal.returns-clause-connects
returns-clause-connects g c =
    let leaves = c.refresh_once-refreshed.ensures.leaves in
    let causes = c.refresh_once-refreshed.ensures.causes in
    none_or_one leaves.once causes.later

pub returns-clause-publishes_at_most_once : goal.returns-clause-publishes_at_most_once
returns-clause-publishes_at_most_once g c =
    let leaves = c.refresh_once-refreshed.ensures.leaves in slot_result_at_most_once _ _ _ _ c.refresh_once-refreshed.result leaves.takes leaves.fault

pub returns-clause-polls : goal.returns-clause-polls
returns-clause-polls g c room tags metrics =
    slot_refreshed c.args.slot c.args.slot_poller.now.environment c.args.slot_poller.now.ask _ _ _ _ _ tags metrics c.refresh_once-refreshed.result
    c.unless_memory.result c.unless_memory.ensures.ok c.unless_memory.ensures.err c.refresh_once-refreshed.ensures.leaves
    c.refresh_once-refreshed.ensures.causes
