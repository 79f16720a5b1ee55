use Rattle.std.proofs.Common.{arith}
use Rattle.unl_variants.proofs.Reaching.{fits_more}
use Rattle.unl_variants.proofs.weights.place_reached.Goals as goal

pub overflow_add-reached : goal.overflow_add-reached
overflow_add-reached c = omega (arith, c.loop-place.invariant.0, fits_more c.args.variants.now c.loop-place.place c.index-variants-place.result c.requires.limits c.loop-place-test.true c.index-variants-place.is)
