-- The inputs of an evaluation other than its context.
use Rattle.std.specs.Prelude.{ℕ, List}

-- The time in milliseconds since 1970, the word from which random numbers are derived, and the name of the host.
pub record Moment : Type 0 where
  pub now : ℕ
  pub word : ℕ
  pub host : List ℕ
