use Rattle.std.proofs.Common.{◌≡◌, drop, fold, map}
use Rattle.unl_metrics.specs.Book.{counted, with_tally, sum_of, HasOrderedKeys}
use Rattle.unl_metrics.proofs.sums.report_sum.Given as goal

abbrev pub invariant-loop-entry : goal.invariant-loop-entry
invariant-loop-entry l = record {
  so_far : fold with_tally l.all.items (drop l.entry-index (map (counted l.environment) l.entries)) ≡ sum_of l.rows (map (counted l.environment) l.entries);
  order : HasOrderedKeys l.all.items;
}
