use Rattle.std.proofs.Common.{map, fold, refl}
use Rattle.unl_metrics.specs.Book.{pair, with_variant}
use Rattle.unl_metrics.proofs.Folds.{map_more, map_done}
use Rattle.unl_metrics.proofs.Variants.{stays_sorted}
use Rattle.unl_metrics.proofs.row.variants_sum.Goals as goal

pub loop-count-preserved : goal.loop-count-preserved
loop-count-preserved c =
    let these = map pair c.args.these.now in
    let those = c.args.those.now in
    let counts = map pair c.loop-count.counts.items in
    rw c.in_ok-add_variant.ensures record {
      so_far = map_more with_variant pair counts (with_variant counts (pair c.count-item.result)) (fold with_variant these (map pair those)) those c.loop-count.count-index c.count-item.result c.loop-count-test.true c.count-item.is refl c.loop-count.invariant.so_far;
      sorted = stays_sorted counts (pair c.count-item.result) c.loop-count.invariant.sorted;
    }

pub returns : goal.returns
returns c = rw c.from_vec.ensures (map_done with_variant pair (map pair c.loop-count.counts.items) (fold with_variant (map pair c.args.these.now) (map pair c.args.those.now)) c.args.those.now c.loop-count.count-index c.loop-count-test.false c.loop-count.invariant.so_far)
