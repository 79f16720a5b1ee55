use Rattle.std.proofs.Common.{◌≡◌, ◌<◌, take}
use Rattle.unl_variants.specs.Variant.{total_weight}
use Rattle.unl_variants.proofs.weights.place_reached.Given as goal

abbrev pub invariant-loop-place : goal.invariant-loop-place
invariant-loop-place l = (l.reached ≡ total_weight (take l.place l.variants)) × (l.reached < l.target)
