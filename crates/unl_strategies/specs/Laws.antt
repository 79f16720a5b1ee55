-- Laws about rollouts to a percentage of ids.
use Rattle.std.specs.Prelude.{◌≡◌, ◌≤◌, ℕ, List, true, false}
use Rattle.unl_strategies.specs.Rollout.{is_rolled_out}

-- If a percentage includes an id, so does every greater percentage with the same group (the text that is hashed with the id).
abbrev pub RolloutsGrow : Type 0
RolloutsGrow =
    (percent more : ℕ) (group id : List ℕ) → percent ≤ more → is_rolled_out percent group id ≡ true → is_rolled_out more group id ≡ true

-- A percentage of 100 or more includes every id.
abbrev pub FullRolloutsTakeAll : Type 0
FullRolloutsTakeAll = (percent : ℕ) (group id : List ℕ) → 100 ≤ percent → is_rolled_out percent group id ≡ true

-- A percentage of 0 includes no id.
abbrev pub EmptyRolloutsTakeNone : Type 0
EmptyRolloutsTakeNone = (group id : List ℕ) → is_rolled_out 0 group id ≡ false
