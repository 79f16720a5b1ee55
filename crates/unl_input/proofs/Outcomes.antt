-- The outcome of an input, by how much of it was read.
use Rattle.std.proofs.Common.{◌≡◌, ◌<◌, ◌≤◌, ℕ, List, [], ◌++◌, length, Option, Some, None, refl, ap, ◌∙◌, false, arith, ltb, append-nil, length-append}
use Rattle.std.proofs.lemmas.Bool.{lt-ltb}
use Rattle.std.proofs.lemmas.Bool.Decides.{nat_tests}
use Rattle.std.specs.Prelude.{Ok, Err, IfSome, unwrap_or}
use Rattle.unl_base.specs.Streams.{HasEnded, Sends, SendsPrefix, Takes}
use Rattle.unl_documents.specs.declared.fault.BadDocument.{BadDocument}
use Rattle.unl_documents.specs.Reading.{Reading}
use Rattle.unl_input.specs.declared.answering.AnswerFault.TheVariants.{Refused, WriteFault}
use Rattle.unl_input.specs.declared.reading.InputFault.TheVariants as input
use Rattle.unl_input.specs.declared.refusal.InputRefusal.TheVariants.{BadInput, TooLarge}
use Rattle.unl_input.specs.Answer.{AnsweringEnds, HasOutcome, InputOutcome, or_bad_input, input_outcome}
use Rattle.unl_input.specs.Input.{HasRead, longest}

not_longer : (n : ℕ) → n ≤ longest → ltb 16777216 n ≡ false
not_longer n short = grind (arith, nat_tests)

-- The outcome of an input that is not too long is the result of the computation.
within : {T : Type 0} (reads : List ℕ → Reading T) (bytes : List ℕ) (reading : Reading T) → length bytes ≤ longest → reads bytes ≡ reading
    → input_outcome reads bytes ≡ or_bad_input reading
unfolding input_outcome
within reads bytes reading short is = rw (not_longer (length bytes) short) (ap or_bad_input is)

-- An input that is too long is refused as `TooLarge`.
pub refused_as_too_large : {T : Type 0} (reads : List ℕ → Reading T) (bytes : List ℕ) → longest < length bytes → input_outcome reads bytes ≡ Err TooLarge
unfolding input_outcome
refused_as_too_large reads bytes long = rw (lt-ltb 16777216 (length bytes) long) refl

-- The effect of answering if too many bytes were read.
pub ends_too_large : {T : Type 0} (reads : List ℕ → Reading T) (says : T → List ℕ) (left left_after old : Option (List ℕ))
    → HasRead (Err input.TooLarge) left left_after → AnsweringEnds reads says (Err (Refused TooLarge)) left left_after old old
ends_too_large reads says left left_after old read = record {
  comes = record { bytes = read.0; read = read.1; is = refused_as_too_large reads read.0 read.1.long };
  silent = refl;
}

-- The effect of answering if the input has a fault.
pub ends_refused : {T : Type 0} (fault : BadDocument) (reads : List ℕ → Reading T) (says : T → List ℕ) (left left_after old : Option (List ℕ)) (bytes : List ℕ)
    → HasRead (Ok bytes) left left_after → reads bytes ≡ Err fault → AnsweringEnds reads says (Err (Refused (BadInput fault))) left left_after old old
ends_refused fault reads says left left_after old bytes read is = record {
  comes = record { bytes = bytes; read = read.0; is = within reads bytes (Err fault) read.1 is };
  silent = refl;
}

-- The effect of answering if the whole text of the answer was sent.
pub ends_answered : {T : Type 0} (answer : T) (reads : List ℕ → Reading T) (says : T → List ℕ) (left left_after old new : Option (List ℕ)) (bytes : List ℕ)
    → HasRead (Ok bytes) left left_after → reads bytes ≡ Ok answer → Sends old (says answer) new → AnsweringEnds reads says (Ok answer) left left_after old new
ends_answered answer reads says left left_after old new bytes read is sent = record {
  comes = record { bytes = bytes; read = read.0; is = within reads bytes (Ok answer) read.1 is };
  sent = sent;
}

-- The effect of answering if a prefix of the text of the answer was sent.
pub ends_broken : {T : Type 0} (answer : T) (reads : List ℕ → Reading T) (says : T → List ℕ) (left left_after old new : Option (List ℕ)) (bytes : List ℕ)
    → HasRead (Ok bytes) left left_after → reads bytes ≡ Ok answer → SendsPrefix old (says answer) new → AnsweringEnds reads says (Err WriteFault) left left_after old new
ends_broken answer reads says left left_after old new bytes read is sent = record {
  answer = answer;
  prefix = record { comes = record { bytes = bytes; read = read.0; is = within reads bytes (Ok answer) read.1 is }; sent = sent };
}

-- ---- all remaining bytes determine the outcome

-- All remaining bytes are those that were read, then the rest.
all_are : (all bytes more : List ℕ) → Takes (Some all) bytes (Some more) → all ≡ bytes ++ more
all_are all bytes more took = ap (λ (o : Option (List ℕ)). unwrap_or o []) took

-- If the source was read to its end, all of its bytes have the outcome of those that were read.
at_end : {T : Type 0} (reads : List ℕ → Reading T) (outcome : InputOutcome T) (all bytes : List ℕ) (rest : Option (List ℕ))
    → input_outcome reads bytes ≡ outcome → Takes (Some all) bytes rest → HasEnded rest → input_outcome reads all ≡ outcome
at_end reads outcome all bytes None is took end = absurd (cc took)
at_end reads outcome all bytes (Some more) is took end =
    ap (input_outcome reads) (all_are all bytes more took ∙ ap (λ (m : List ℕ). bytes ++ m) end ∙ append-nil bytes) ∙ is

-- If too many bytes were read, all of the source's bytes are too many.
past_end : {T : Type 0} (reads : List ℕ → Reading T) (all bytes : List ℕ) (rest : Option (List ℕ)) → Takes (Some all) bytes rest
    → longest < length bytes → input_outcome reads all ≡ Err TooLarge
past_end reads all bytes None took long = absurd (cc took)
past_end reads all bytes (Some more) took long =
    let longer : longest < length all = omega (arith, ap length (all_are all bytes more took), length-append bytes more, long) in
    refused_as_too_large reads all longer

-- The bytes that remained before the read determine the outcome.
pub decides : {T : Type 0} (reads : List ℕ → Reading T) (outcome : InputOutcome T) (left left_after : Option (List ℕ)) → HasOutcome reads outcome left left_after
    → IfSome left (λ all. input_outcome reads all ≡ outcome)
decides reads outcome None left_after comes = tt
decides reads (Ok answer) (Some all) left_after comes = at_end reads (Ok answer) all comes.bytes left_after comes.is comes.read.took comes.read.end
decides reads (Err (BadInput fault)) (Some all) left_after comes =
    at_end reads (Err (BadInput fault)) all comes.bytes left_after comes.is comes.read.took comes.read.end
decides reads (Err TooLarge) (Some all) left_after comes = past_end reads all comes.bytes left_after comes.read.took comes.read.long
