use Rattle.std.proofs.Common.{arith}
use Rattle.unl_variants.proofs.Reaching.{fits_more}
use Rattle.unl_variants.proofs.weights.total_weight.Goals as goal

pub overflow_add-total : goal.overflow_add-total
overflow_add-total c = omega (arith, c.loop-variant.invariant, fits_more c.args.variants.now c.loop-variant.variant-index c.variant-item.result c.requires.limits c.loop-variant-test.true c.variant-item.is)
