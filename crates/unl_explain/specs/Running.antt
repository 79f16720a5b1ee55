-- The explanation that is computed for an input, and the text that is sent to the sink. The input is a question: why is a feature
-- of a state on or off for a context, at a time and with a random word? In the definitions below, `left` and `left_after` are the
-- bytes still to be read from the source before and after the call, and `old` and `new` are the bytes sent to the sink so far, before
-- and after the call. Each is `None` if it is not observable.
use Rattle.std.specs.Prelude.{◌≡◌, ℕ, List, [], Option, Result, Ok, Err}
use Rattle.unl_documents.specs.Reading.{Reading, ◌>>=◌}
use Rattle.unl_explain.specs.declared.question.Question.{Question}
use Rattle.unl_explain.specs.declared.reason.Reason.{Reason}
use Rattle.unl_explain.specs.declared.running.ExplainFault.{ExplainFault}
use Rattle.unl_explain.specs.declared.running.ExplainFault.TheVariants.{BadInput, TooLarge, ReadFault, WriteFault, Memory}
use Rattle.unl_explain.specs.Line.{explanation_line}
use Rattle.unl_explain.specs.Question.{question_in}
use Rattle.unl_explain.specs.Reasons.{reasons_of}
use Rattle.unl_input.specs.declared.refusal.InputRefusal.{InputRefusal}
use Rattle.unl_input.specs.declared.refusal.InputRefusal.TheVariants as refusal
use Rattle.unl_input.specs.Answer.{InputOutcome, Says, SaysPrefix}

-- The explanation for a question, or `None` if the state lacks the feature. The feature is evaluated at the time and with the random
-- word of the question, and with an empty host name.
abbrev pub answer_to : Question → Option Reason
answer_to q = reasons_of q.state q.feature q.context (record { now = q.now; word = q.word; host = [] })

-- The line with the explanation for an input (`null` if the state lacks the feature), or the input's first fault.
unfoldable pub explained : List ℕ → Reading (List ℕ)
explained bytes = do
  question ← question_in bytes
  Ok (explanation_line (answer_to question))

-- The text that is sent for a line with an explanation: the line itself.
abbrev pub as_it_is : List ℕ → List ℕ
as_it_is line = line

-- The error of a call whose input is refused: it has the same cause as the refusal.
abbrev pub fault_of : InputRefusal → ExplainFault
fault_of (refusal.BadInput fault) = BadInput fault
fault_of refusal.TooLarge = TooLarge

-- An input with this outcome was read, and one whole line was sent: the line with the explanation, or, if the outcome is a refusal,
-- the line that reports the refusal.
abbrev pub PrintsRefusal : InputOutcome (List ℕ) → Option (List ℕ) → Option (List ℕ) → Option (List ℕ) → Option (List ℕ) → Type 0
PrintsRefusal outcome left left_after old new = Says explained as_it_is outcome left left_after old new

-- An input was read, and a prefix of one line was sent: of the line with the explanation, or, if the input is refused, of the line
-- that reports the refusal.
abbrev pub PrintsRefusalPrefix : Option (List ℕ) → Option (List ℕ) → Option (List ℕ) → Option (List ℕ) → Type 0
PrintsRefusalPrefix left left_after old new =
    (outcome : InputOutcome (List ℕ)) × SaysPrefix explained as_it_is outcome left left_after old new

-- The effect of explaining an input, by the result of the call. If the source failed or memory ran out, nothing was sent.
abbrev pub Explains : Result (Unit {0}) ExplainFault → Option (List ℕ) → Option (List ℕ) → Option (List ℕ) → Option (List ℕ) → Type 0
Explains (Ok u) left left_after old new = (line : List ℕ) × PrintsRefusal (Ok line) left left_after old new
Explains (Err (BadInput fault)) left left_after old new = PrintsRefusal (Err (refusal.BadInput fault)) left left_after old new
Explains (Err TooLarge) left left_after old new = PrintsRefusal (Err refusal.TooLarge) left left_after old new
Explains (Err ReadFault) left left_after old new = new ≡ old
Explains (Err WriteFault) left left_after old new = PrintsRefusalPrefix left left_after old new
Explains (Err Memory) left left_after old new = new ≡ old
