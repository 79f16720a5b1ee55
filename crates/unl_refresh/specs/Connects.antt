-- A lower bound for the number of connections that were made to a peer.
use Rattle.std.specs.Prelude.{◌≡◌, ℕ, ◌≤◌, List, Option, option_map, drop}
use Rattle.unl_base.specs.Faults.{Rose}

-- The peer's fault count did not fall. Unless it rose (the peer failed), at least `least` connections were made, and each used up one of
-- `replies`, the replies to come. If these are not observable (`None`), nothing is said of the number.
pub record Connects
    (least : ℕ) (replies : Option (List (List ℕ))) (faults : ℕ) (replies_after : Option (List (List ℕ))) (faults_after : ℕ) : Type 0 where
  pub later : faults ≤ faults_after
  pub made : ¬ (Rose faults faults_after) → (count : ℕ) × (least ≤ count) × (replies_after ≡ option_map (λ list. drop count list) replies)
