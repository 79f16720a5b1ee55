use Rattle.unl_metrics.proofs.Books.{no_keys}
use Rattle.unl_metrics.proofs.book.MetricsBook.new.Goals as goal

pub invariant_of-result : goal.invariant_of-result
invariant_of-result c = rw c.new.ensures.items no_keys
