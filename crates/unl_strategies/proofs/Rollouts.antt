-- Which ids a percentage includes.
use Rattle.std.proofs.Common.{◌≡◌, ℕ, ◌+◌, ◌<◌, ◌≤◌, ◌%◌, List, true, arith}
use Rattle.std.specs.Prelude.{◌&&◌, nat_lt, nat_le}
use Rattle.std.proofs.lemmas.Bool.Decides.{nat_tests}
use Rattle.unl_murmur.specs.Murmur3.{murmur3, normalized_of}
use Rattle.unl_strategies.specs.Rollout.{is_rolled_out}

-- A number is within a percentage if the percentage is positive and at least the number. It is then within every greater percentage.
test_grows : (percent more number : ℕ) → percent ≤ more → nat_lt 0 percent && nat_le number percent ≡ true → nat_lt 0 more && nat_le number more ≡ true
test_grows percent more number grown taken = grind (arith, nat_tests)

pub grows : (percent more : ℕ) (group id : List ℕ) → percent ≤ more → is_rolled_out percent group id ≡ true → is_rolled_out more group id ≡ true
grows percent more group id grown taken = test_grows percent more (normalized_of group id 100 0) grown taken

-- A number from 1 to 100 is within every percentage of 100 or more.
test_all : (percent number : ℕ) → 100 ≤ percent → nat_lt 0 percent && nat_le (number % 100 + 1) percent ≡ true
test_all percent number full = let below : number % 100 < 100 = omega arith in grind (arith, nat_tests)

pub takes_all : (percent : ℕ) (group id : List ℕ) → 100 ≤ percent → is_rolled_out percent group id ≡ true
unfolding normalized_of
takes_all percent group id full = test_all percent (murmur3 _ 0) full
