-- Reading a whole input, in terms of the source's remaining bytes.
use Rattle.std.specs.Prelude.{◌<◌, ◌≤◌, ⊤, ℕ, List, length, Option, Result, Ok, Err}
use Rattle.unl_base.specs.Streams.{Takes, HasEnded}
use Rattle.unl_input.specs.declared.reading.InputFault.{InputFault}
use Rattle.unl_input.specs.declared.reading.InputFault.TheVariants.{TooLarge, ReadFault, Memory}

-- The largest allowed size of an input, in bytes.
abbrev pub longest : ℕ
longest = 16777216

-- These bytes were read, and no more remained.
pub record IsWholeInput (left : Option (List ℕ)) (bytes : List ℕ) (left_after : Option (List ℕ)) : Type 0 where
  pub took : Takes left bytes left_after
  pub end : HasEnded left_after

-- These bytes were read, and they are more than an input may have.
pub record IsTooLongInput (left : Option (List ℕ)) (bytes : List ℕ) (left_after : Option (List ℕ)) : Type 0 where
  pub took : Takes left bytes left_after
  pub long : longest < length bytes

-- The whole input was read, or more bytes than an input may have. If the read failed or memory ran out, nothing is claimed.
abbrev pub HasRead : Result (List ℕ) InputFault → Option (List ℕ) → Option (List ℕ) → Type 0
HasRead (Ok bytes) left left_after = IsWholeInput left bytes left_after × (length bytes ≤ longest)
HasRead (Err TooLarge) left left_after = (bytes : List ℕ) × IsTooLongInput left bytes left_after
HasRead (Err ReadFault) left left_after = ⊤
HasRead (Err Memory) left left_after = ⊤
