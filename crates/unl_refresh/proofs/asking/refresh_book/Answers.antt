use Rattle.unl_refresh.proofs.Connecting.{asked_once, book_result_at_most_once, none_or_one}
use Rattle.unl_refresh.proofs.TurnsTaken.{book_polled}
use Rattle.unl_refresh.proofs.asking.refresh_book.Goals as goal

pub returns-clause-asks : goal.returns-clause-asks
returns-clause-asks g c room =
    let leaves = c.refresh_tokens-kept.ensures.leaves in
    let causes = c.refresh_tokens-kept.ensures.causes in
    asked_once _ _ _ _ _ c.refresh_tokens-kept.result c.unless_memory.result c.unless_memory.ensures.ok leaves.asks causes.cause causes.later

pub returns-clause-connects : goal.returns-clause-connects
returns-clause-connects g c =
    let leaves = c.refresh_tokens-kept.ensures.leaves in
    let causes = c.refresh_tokens-kept.ensures.causes in
    none_or_one leaves.once causes.later

pub returns-clause-publishes_at_most_once : goal.returns-clause-publishes_at_most_once
returns-clause-publishes_at_most_once g c =
    let leaves = c.refresh_tokens-kept.ensures.leaves in book_result_at_most_once _ _ c.refresh_tokens-kept.result leaves.takes leaves.fault

pub returns-clause-polls : goal.returns-clause-polls
returns-clause-polls g c room tags metrics =
    book_polled _ _ _ _ _ _ _ tags metrics c.refresh_tokens-kept.result c.unless_memory.result c.as_str.ensures c.unless_memory.ensures.ok c.unless_memory.ensures.err
    c.refresh_tokens-kept.ensures.leaves c.refresh_tokens-kept.ensures.causes
