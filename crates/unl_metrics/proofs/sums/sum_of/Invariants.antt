use Rattle.std.proofs.Common.{◌≡◌, drop, fold}
use Rattle.unl_metrics.specs.Book.{with_tally, sum_of, HasOrderedKeys}
use Rattle.unl_metrics.proofs.sums.sum_of.Given as goal

abbrev pub invariant-loop-other : goal.invariant-loop-other
invariant-loop-other l = record {
  so_far : fold with_tally l.all.items (drop l.other-index l.others) ≡ sum_of l.rows l.others;
  order : HasOrderedKeys l.all.items;
}
