use Rattle.unl_metrics.proofs.Books.{no_keys}
use Rattle.unl_metrics.proofs.book.MetricsBook.merge.Goals as goal

pub invariant_of-other : goal.invariant_of-other
invariant_of-other c = rw c.clear.ensures.items no_keys
