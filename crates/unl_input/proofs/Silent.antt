-- Lines that print nothing.
use Rattle.std.proofs.Common.{◌≡◌, ℕ, ◌+◌, List, [], ◌∷◌, ◌++◌, length, take, Bool, true, false, cond, ltb, Option, option_map, Ok, Err, refl, sym, ap, ◌∙◌}
use Rattle.std.specs.Prelude.{codes}
use Rattle.unl_base.specs.Streams.{Sends}
use Rattle.unl_input.proofs.Lines.{sends_nothing}
use Rattle.unl_input.specs.Lines.{lines}
use Rattle.unl_input.specs.Reading.{longest_line}
use Rattle.unl_input.specs.Taken.{LineResult, LinesOutcome, Taken, Taking, followed, first_lines_outcome, take_from, take_line, most_lines}
use Rattle.unl_input.specs.Whole.{AnswersFirst, TakesLines}
use Rattle.unl_input.specs.declared.taking.LinesFault.TheVariants.{Memory}
use Rattle.unl_input.specs.Laws.{IsSilent, PrintsCauseAlone}

-- if a line isn't refused when the limits are checked, its result is the same without the check
pub within_limits_of : {D : Type 0} (taking : Taking D) (d : D) (line : List ℕ) (k : ℕ) (taken : Taken D) → take_line taking k d line ≡ Ok taken
    → taking k d line ≡ Ok taken
within_limits_of taking d line k taken is = limited (ltb most_lines k) (ltb longest_line (length line)) is
  where
    limited : (many long : Bool) → cond many (Err (codes "TooManyLines")) (cond long (Err (codes "LineTooLong")) (taking k d line)) ≡ Ok taken
        → taking k d line ≡ Ok taken
    limited true long is = absurd (cc is)
    limited false true is = absurd (cc is)
    limited false false is = is

-- a line also prints nothing if the limits are checked first
silent_line : {D : Type 0} (taking : Taking D) (k : ℕ) (d : D) (line : List ℕ) (taken : Taken D) → IsSilent taking → take_line taking k d line ≡ Ok taken → taken.text ≡ []
silent_line taking k d line taken silent is = silent k d line taken (within_limits_of taking d line k taken is)

silent_step : {D : Type 0} (k : ℕ) (d : D) (comes : LineResult D) (rest : D → LinesOutcome D) → ((taken : Taken D) → comes ≡ Ok taken → taken.text ≡ [])
    → ((after : D) → (rest after).text ≡ []) → (followed k d comes rest).text ≡ []
silent_step k d (Ok taken) rest none later = ap (λ t. t ++ (rest taken.desk).text) (none taken refl) ∙ later taken.desk
silent_step k d (Err cause) rest none later = refl

pub silent_from : {D : Type 0} (taking : Taking D) → IsSilent taking → (ls : List (List ℕ)) (k : ℕ) (d : D) → (take_from taking k d ls).text ≡ []
silent_from taking silent [] k d = refl
silent_from taking silent (line ∷ more) k d =
    silent_step k d (take_line taking k d line) (λ after. take_from taking (k + 1) after more)
    (λ taken is. silent_line taking k d line taken silent is) (λ after. silent_from taking silent more (k + 1) after)

pub prints_cause_alone : {D : Type 0} (taking : Taking D) → IsSilent taking → PrintsCauseAlone taking
prints_cause_alone taking silent = λ d bytes. silent_from taking silent (lines bytes) 1 d

-- sending a text without bytes sends nothing
pub nothing_sent : (old new : Option (List ℕ)) (text : List ℕ) → text ≡ [] → Sends old text new → new ≡ old
nothing_sent old new text none sends = sends ∙ ap (λ (t : List ℕ). option_map (λ sent. sent ++ t) old) none ∙ sym (sends_nothing old)

-- if no line prints anything and memory ran out, nothing was printed
pub memory_is_silent : {D : Type 0} (taking : Taking D) (d : D) (left left_after old new : Option (List ℕ)) → IsSilent taking
    → TakesLines taking d (Err Memory) left left_after old new → new ≡ old
memory_is_silent taking d left left_after old new silent takes =
    let firsts : AnswersFirst taking d (takes.read ++ []) old new = takes.holds [] (λ end. refl) in
    nothing_sent old new (first_lines_outcome taking d firsts.count (takes.read ++ [])).text
    (silent_from taking silent (take firsts.count (lines (takes.read ++ []))) 1 d) firsts.answered.sent
