use Rattle.unl_refresh.proofs.Sent.{receiver_send, sender_send}
use Rattle.unl_refresh.proofs.crossing.metrics_ends_are_send.Goals as goal

pub returns-clause-sender : goal.returns-clause-sender
returns-clause-sender c lifetime = sender_send lifetime c.queues_are_sync.ensures c.books_are_send.ensures c.passes_are_send.ensures

pub returns-clause-receiver : goal.returns-clause-receiver
returns-clause-receiver c lifetime = receiver_send lifetime c.queues_are_sync.ensures c.books_are_send.ensures c.passes_are_send.ensures
