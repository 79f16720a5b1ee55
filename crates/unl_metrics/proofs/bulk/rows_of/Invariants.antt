use Rattle.std.proofs.Common.{◌≡◌, take}
use Rattle.unl_metrics.specs.Book.{counted_in}
use Rattle.unl_metrics.proofs.bulk.rows_of.Given as goal

abbrev pub invariant-loop-row : goal.invariant-loop-row
invariant-loop-row l = l.found.items ≡ counted_in l.environment (take l.row-index l.rows)
