-- The metrics books (counts of how often each feature was on and off) that the workers of an edge handed over, through a queue, to the
-- edge's poller, which polls the upstream in turns.
use Rattle.std.specs.Prelude.{◌≡◌, List, ◌++◌, All, flat_map}
use Rattle.unl_edge.specs.EdgeServices.{EdgeWorker}
use Rattle.unl_edge.specs.WorkerBooks.{new_book}
use Rattle.unl_metrics.specs.Book.{Book}
use Rattle.unl_refresh.specs.Handovers.{SameBooks}

-- Each worker began with no counts, and had handed over no book. The books that the workers handed over are those that the turns took and
-- those that still wait in the queue, each the same number of times.
pub record ConservesMetrics (begun ended : List EdgeWorker) (taken : List Book) : Type 0 where
  pub begins : All (λ worker. worker.book ≡ new_book) begun
  pub waiting : List Book
  pub same : SameBooks (flat_map (λ worker. worker.book.handed) ended) (taken ++ waiting)
