-- The effect of processing all lines of an input: the bytes read from the source, and the text sent to the sink.
use Rattle.std.specs.Prelude.{◌≡◌, List, [], ◌++◌, ℕ, Option, Result, Ok, Err}
use Rattle.unl_base.specs.Streams.{Takes, HasEnded, Sends, SendsPrefix}
use Rattle.unl_input.specs.declared.taking.LinesFault.{LinesFault}
use Rattle.unl_input.specs.declared.taking.LinesFault.TheVariants.{Bad, ReadFault, WriteFault, Memory}
use Rattle.unl_input.specs.Taken.{LinesOutcome, Taking, done, IsRefused, whole_text}
use Rattle.unl_input.specs.Taken.{lines_outcome, ended_lines_outcome, first_lines_outcome}

-- every line was processed, and all output was sent
pub record IsAnswered {D : Type 0} (outcome : LinesOutcome D) (old new : Option (List ℕ)) : Type 0 where
  pub ending : outcome.ending ≡ done
  pub sent : Sends old outcome.text new

-- a line is refused; the output of the lines before it and the report of the refusal were sent
pub record IsRefusing {D : Type 0} (outcome : LinesOutcome D) (old new : Option (List ℕ)) : Type 0 where
  pub ending : IsRefused outcome.ending
  pub sent : Sends old (whole_text outcome) new

-- some bytes were read, the lines of these bytes that end with a line feed were processed, and all output of these lines was sent
pub record AnswersRead {D : Type 0} (taking : Taking D) (desk : D) (left left_after old new : Option (List ℕ)) : Type 0 where
  pub read : List ℕ
  pub took : Takes left read left_after
  pub answered : IsAnswered (ended_lines_outcome taking desk read) old new

-- some bytes were read, and `P` holds for these together with any bytes that may follow; none follow if the source has ended
pub record HoldsOfRead (left left_after : Option (List ℕ)) (P : List ℕ → Type 0) : Type 0 where
  pub read : List ℕ
  pub took : Takes left read left_after
  pub holds : (rest : List ℕ) → (HasEnded left_after → rest ≡ []) → P (read ++ rest)

-- None of the first `count` lines is refused, and just their output was sent, which is a prefix of all that the input prints.
pub record AnswersFirst {D : Type 0} (taking : Taking D) (desk : D) (bytes : List ℕ) (old new : Option (List ℕ)) : Type 0 where
  pub count : ℕ
  pub answered : IsAnswered (first_lines_outcome taking desk count bytes) old new
  pub prefix : SendsPrefix old (whole_text (lines_outcome taking desk bytes)) new

-- the input was read to its end, every line was processed, and all output was sent
pub record AnswersInput {D : Type 0} (taking : Taking D) (desk : D) (left left_after old new : Option (List ℕ)) : Type 0 where
  pub read : List ℕ
  pub took : Takes left read left_after
  pub end : HasEnded left_after
  pub answered : IsAnswered (lines_outcome taking desk read) old new

-- the input was read to its end, its lines were processed, and `desk_after` is the state after them
pub record AnswersAllLines {D : Type 0} (taking : Taking D) (desk desk_after : D) (left left_after old new : Option (List ℕ)) : Type 0 where
  pub read : List ℕ
  pub took : Takes left read left_after
  pub end : HasEnded left_after
  pub answered : IsAnswered (lines_outcome taking desk read) old new
  pub leaves : (lines_outcome taking desk read).desk ≡ desk_after

-- The effect of processing the lines of an input, by its result. `left` and `left_after` are the bytes still to be read before
-- and after, and `old` and `new` are the bytes sent before and after. Each is `None` if it is not observable.
abbrev pub TakesLines : {D : Type 0} → Taking D → D → Result (Unit {0}) LinesFault → Option (List ℕ) → Option (List ℕ) → Option (List ℕ)
    → Option (List ℕ) → Type 0
TakesLines taking desk (Ok u) left left_after old new = AnswersInput taking desk left left_after old new
TakesLines taking desk (Err Bad) left left_after old new =
    HoldsOfRead left left_after (λ bytes. IsRefusing (lines_outcome taking desk bytes) old new)
TakesLines taking desk (Err ReadFault) left left_after old new = AnswersRead taking desk left left_after old new
TakesLines taking desk (Err WriteFault) left left_after old new =
    HoldsOfRead left left_after (λ bytes. SendsPrefix old (whole_text (lines_outcome taking desk bytes)) new)
TakesLines taking desk (Err Memory) left left_after old new =
    HoldsOfRead left left_after (λ bytes. AnswersFirst taking desk bytes old new)
