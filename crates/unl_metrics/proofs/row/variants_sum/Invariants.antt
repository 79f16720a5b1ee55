use Rattle.std.proofs.Common.{◌≡◌, T, map, drop, fold, nat_cmp}
use Rattle.std.specs.Cmp.Lexicographic.{slice_cmp}
use Rattle.std.specs.FinMap.Entries.{is_sorted}
use Rattle.unl_metrics.specs.Book.{pair, with_variant}
use Rattle.unl_metrics.proofs.row.variants_sum.Given as goal

abbrev pub invariant-loop-count : goal.invariant-loop-count
invariant-loop-count l = record {
  so_far : fold with_variant (map pair l.counts.items) (drop l.count-index (map pair l.those)) ≡ fold with_variant (map pair l.these) (map pair l.those);
  sorted : T (is_sorted (slice_cmp nat_cmp) (map pair l.counts.items));
}
