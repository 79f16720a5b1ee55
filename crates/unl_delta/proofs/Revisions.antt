-- The order of revisions (pairs of an epoch and a number): `IsNotOlder` is reflexive, transitive and antisymmetric.
use Rattle.std.proofs.Common.{◌≡◌, ℕ, ◌<◌, ◌≤◌, false, ltb, refl, arith, inr}
use Rattle.std.specs.Prelude.{◌⊎◌, ◌&&◌, ◌||◌, ◌==◌}
use Rattle.std.proofs.lemmas.Bool.Decides.{nat_tests}
use Rattle.unl_delta.specs.Revision.{Revision, is_older, IsNotOlder}

pub pair_not_older : (g d e c : ℕ) → (ltb g d || ((g == d) && ltb e c)) ≡ false → (d < g) ⊎ ((d ≡ g) × (c ≤ e))
pair_not_older g d e c is = grind (arith, nat_tests)

older_not : (g d e c : ℕ) → (d < g) ⊎ ((d ≡ g) × (c ≤ e)) → (ltb g d || ((g == d) && ltb e c)) ≡ false
older_not g d e c is = grind (arith, nat_tests, is)

pub not_older : (these those : Revision) → is_older those these ≡ false → IsNotOlder these those
not_older these those is = pair_not_older those.epoch these.epoch those.number these.number is

pub up_to_is : (these those : Revision) → IsNotOlder these those → is_older those these ≡ false
up_to_is these those h = older_not those.epoch these.epoch those.number these.number h

pub up_to_itself : (now : Revision) → IsNotOlder now now
up_to_itself now = inr (refl, omega arith)

pub up_to_both : (one two three : Revision) → IsNotOlder one two → IsNotOlder two three → IsNotOlder one three
up_to_both one two three h k = grind (arith, h, k)

pub up_to_same : (these those : Revision) → IsNotOlder these those → IsNotOlder those these → these ≡ those
up_to_same these those h k =
    let epoch : these.epoch ≡ those.epoch = grind (arith, h, k) in
    let number : these.number ≡ those.number = grind (arith, h, k) in
    λ i. record { epoch = epoch i; number = number i }
