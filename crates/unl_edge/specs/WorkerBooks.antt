-- The metrics of a worker: how many times each feature was on and off, as clients report. A book is a list of such counts. The worker
-- hands books over, through a queue, to the thread that polls the upstream.
use Rattle.std.specs.Prelude.{◌≡◌, List, []}
use Rattle.unl_edge.specs.declared.link_handler.EdgeLinkHandler.{EdgeLinkHandler}
use Rattle.unl_metrics.specs.Book.{Book}
use Rattle.unl_refresh.specs.MetricsQueues.{Receiving}
use Rattle.unl_workers.specs.declared.worker.WorkerSlot.{WorkerSlot}

-- a worker's metrics: the counts that are not handed over yet, and the books that its sender has put into the queue, in order
pub record WorkerBook : Type 0 where
  pub counts : Book
  pub handed : List Book

-- the metrics in the state of a worker (its link handler)
abbrev pub book_of : {W : Type 0} → EdgeLinkHandler W → WorkerBook
book_of handler = record { counts = handler.book; handed = handler.sender.handed }

-- the metrics of a new worker: no counts, and no book handed over
abbrev pub new_book : WorkerBook
new_book = record { counts = []; handed = [] }

-- The worker has no counts and has handed over no book. The worker's sender and this receiver have the same queue.
pub record HasNewBook {W : Type 0} (receiver : Receiving) (handler : EdgeLinkHandler W) : Type 0 where
  pub new : book_of handler ≡ new_book
  pub queue : handler.sender.queue ≡ receiver.queue

-- the books that the worker of a slot has handed over, in order
abbrev pub handed_at : {W R : Type 0} → WorkerSlot (EdgeLinkHandler W) R → List Book
handed_at pool_slot = pool_slot.server.sender.handed

-- The slot's sender and this receiver have the same queue.
abbrev pub HandsTo : {W R : Type 0} → Receiving → WorkerSlot (EdgeLinkHandler W) R → Type 0
HandsTo receiver pool_slot = pool_slot.server.sender.queue ≡ receiver.queue
