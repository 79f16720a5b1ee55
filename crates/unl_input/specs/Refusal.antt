-- Why an input is refused, and the line that reports it.
use Rattle.std.specs.Prelude.{◌≡◌, ℕ, List, ◌++◌, codes, Option, Result, Ok, Err}
use Rattle.unl_base.specs.Streams.{Sends, SendsPrefix}
use Rattle.unl_documents.specs.FaultText.{fault_text}
use Rattle.unl_input.specs.declared.refusal.InputRefusal.{InputRefusal}
use Rattle.unl_input.specs.declared.refusal.InputRefusal.TheVariants.{BadInput, TooLarge}
use Rattle.unl_input.specs.declared.refusal.WriteLineFault.{WriteLineFault}
use Rattle.unl_input.specs.declared.refusal.WriteLineFault.TheVariants.{WriteFault, Memory}

-- The cause of a refusal as text: the text of the input's fault, or `TooLarge`.
abbrev pub refusal_text : InputRefusal → List ℕ
refusal_text (BadInput fault) = fault_text fault
refusal_text TooLarge = codes "TooLarge"

-- The line that reports why an input is refused.
abbrev pub refusal_line : InputRefusal → List ℕ
refusal_line refusal = codes "refused: " ++ (refusal_text refusal ++ codes "\n")

-- How writing a line ends: all of it was sent, a prefix of it if a write failed, or nothing if memory ran out.
abbrev pub WritesLine : Result (Unit {0}) WriteLineFault → List ℕ → Option (List ℕ) → Option (List ℕ) → Type 0
WritesLine (Ok u) line old new = Sends old line new
WritesLine (Err WriteFault) line old new = SendsPrefix old line new
WritesLine (Err Memory) line old new = new ≡ old
