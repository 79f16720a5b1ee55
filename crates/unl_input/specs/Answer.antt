-- The outcome of a whole input, and the text that is sent for it.
use Rattle.std.specs.Prelude.{◌≡◌, ℕ, List, Option, Result, Ok, Err, nat_lt, length, if◌then◌else◌}
use Rattle.unl_base.specs.Streams.{Sends, SendsPrefix}
use Rattle.unl_documents.specs.Reading.{Reading}
use Rattle.unl_input.specs.declared.answering.AnswerFault.{AnswerFault}
use Rattle.unl_input.specs.declared.answering.AnswerFault.TheVariants.{Refused, ReadFault, WriteFault, Memory}
use Rattle.unl_input.specs.declared.refusal.InputRefusal.{InputRefusal}
use Rattle.unl_input.specs.declared.refusal.InputRefusal.TheVariants.{BadInput, TooLarge}
use Rattle.unl_input.specs.Input.{IsTooLongInput, IsWholeInput, longest}
use Rattle.unl_input.specs.Refusal.{refusal_line}

-- The outcome of an input: its answer, or why it is refused.
abbrev pub InputOutcome : Type 0 → Type 0
InputOutcome T = Result T InputRefusal

-- A fault of the input becomes a refusal.
abbrev pub or_bad_input : {T : Type 0} → Reading T → InputOutcome T
or_bad_input (Ok answer) = Ok answer
or_bad_input (Err fault) = Err (BadInput fault)

-- The outcome of the given bytes, for a computation `reads`. The size of the input is checked first.
unfoldable pub input_outcome : {T : Type 0} → (List ℕ → Reading T) → List ℕ → InputOutcome T
input_outcome reads bytes = if nat_lt longest (length bytes) then Err TooLarge else or_bad_input (reads bytes)

-- The text of the answer, or the line that reports why the input is refused.
abbrev pub said : {T : Type 0} → (T → List ℕ) → InputOutcome T → List ℕ
said says (Ok answer) = says answer
said says (Err refusal) = refusal_line refusal

-- The bytes that were read determine this outcome: they are the whole input or, for `TooLarge`, more bytes than an input may have.
abbrev pub SufficesFor : {T : Type 0} → InputOutcome T → Option (List ℕ) → List ℕ → Option (List ℕ) → Type 0
SufficesFor (Ok answer) left bytes left_after = IsWholeInput left bytes left_after
SufficesFor (Err (BadInput fault)) left bytes left_after = IsWholeInput left bytes left_after
SufficesFor (Err TooLarge) left bytes left_after = IsTooLongInput left bytes left_after

-- An input with this outcome was read.
pub record HasOutcome {T : Type 0} (reads : List ℕ → Reading T) (outcome : InputOutcome T)
    (left left_after : Option (List ℕ)) : Type 0 where
  pub bytes : List ℕ
  pub read : SufficesFor outcome left bytes left_after
  pub is : input_outcome reads bytes ≡ outcome

-- An input with this outcome was read, and the whole text for it was sent.
pub record Says {T : Type 0} (reads : List ℕ → Reading T) (says : T → List ℕ) (outcome : InputOutcome T)
    (left left_after old new : Option (List ℕ)) : Type 0 where
  pub comes : HasOutcome reads outcome left left_after
  pub sent : Sends old (said says outcome) new

-- An input with this outcome was read, and a prefix of the text for it was sent.
pub record SaysPrefix {T : Type 0} (reads : List ℕ → Reading T) (says : T → List ℕ) (outcome : InputOutcome T)
    (left left_after old new : Option (List ℕ)) : Type 0 where
  pub comes : HasOutcome reads outcome left left_after
  pub sent : SendsPrefix old (said says outcome) new

-- An input was read that is refused for this reason, and nothing was sent.
pub record RefusesSilently {T : Type 0} (reads : List ℕ → Reading T) (refusal : InputRefusal)
    (left left_after old new : Option (List ℕ)) : Type 0 where
  pub comes : HasOutcome reads (Err refusal) left left_after
  pub silent : new ≡ old

-- The input has an answer, and a prefix of the answer's text was sent.
pub record SaysAnswerPrefix {T : Type 0} (reads : List ℕ → Reading T) (says : T → List ℕ)
    (left left_after old new : Option (List ℕ)) : Type 0 where
  pub answer : T
  pub prefix : SaysPrefix reads says (Ok answer) left left_after old new

-- The effect of answering an input, by its result. `left` and `left_after` are the bytes still to be read from the source
-- before and after, and `old` and `new` are the bytes sent to the sink before and after. Each is `None` if it is not observable.
abbrev pub AnsweringEnds : {T : Type 0} → (List ℕ → Reading T) → (T → List ℕ) → Result T AnswerFault
    → Option (List ℕ) → Option (List ℕ) → Option (List ℕ) → Option (List ℕ) → Type 0
AnsweringEnds reads says (Ok answer) left left_after old new = Says reads says (Ok answer) left left_after old new
AnsweringEnds reads says (Err (Refused refusal)) left left_after old new = RefusesSilently reads refusal left left_after old new
AnsweringEnds reads says (Err ReadFault) left left_after old new = new ≡ old
AnsweringEnds reads says (Err WriteFault) left left_after old new = SaysAnswerPrefix reads says left left_after old new
AnsweringEnds reads says (Err Memory) left left_after old new = new ≡ old
