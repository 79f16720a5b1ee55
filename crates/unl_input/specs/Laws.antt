-- The law that an input prints nothing but the report of a refused line, if none of its accepted lines prints anything.
use Rattle.std.specs.Prelude.{◌≡◌, ℕ, List, [], Ok}
use Rattle.unl_input.specs.Taken.{Taken, Taking, lines_outcome}

-- no accepted line prints anything; for a refused line nothing is required
abbrev pub IsSilent : {D : Type 0} → Taking D → Type 0
IsSilent {D = D} taking = (k : ℕ) (d : D) (line : List ℕ) (taken : Taken D) → taking k d line ≡ Ok taken → taken.text ≡ []

-- the lines before a refused one print nothing, so that only its report is printed, or nothing if no line is refused
abbrev pub PrintsCauseAlone : {D : Type 0} → Taking D → Type 0
PrintsCauseAlone {D = D} taking = (d : D) (bytes : List ℕ) → (lines_outcome taking d bytes).text ≡ []
