use Rattle.std.proofs.Common.{◌≡◌, take}
use Rattle.unl_variants.specs.Variant.{total_weight}
use Rattle.unl_variants.proofs.weights.total_weight.Given as goal

abbrev pub invariant-loop-variant : goal.invariant-loop-variant
invariant-loop-variant l = l.total ≡ total_weight (take l.variant-index l.variants)
