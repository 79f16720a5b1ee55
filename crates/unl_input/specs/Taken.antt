-- The text that the lines of an input print, the state after them, and whether a line is refused.
use Rattle.std.specs.Prelude.{ℕ, ◌+◌, List, [], ◌∷◌, ◌++◌, length, take, codes, decimal, if◌then◌else◌, nat_lt, Result, Ok, Err}
use Rattle.unl_input.specs.Lines.{lines, ended_lines}
use Rattle.unl_input.specs.Reading.{longest_line}

-- ---- one line

-- the text that a line prints, and the state after it
pub record Taken (D : Type 0) : Type 0 where
  pub text : List ℕ
  pub desk : D

-- the result of a line, or the text of the cause for which it is refused
abbrev pub LineResult : Type 0 → Type 0
LineResult D = Result (Taken D) (List ℕ)

-- the specification of a line's result, given its number, the state before it and its bytes
abbrev pub Taking : Type 0 → Type 0
Taking D = ℕ → D → List ℕ → LineResult D

-- the most lines that an input may have; lines are numbered from 1
abbrev pub most_lines : ℕ
most_lines = 1000000

-- the result of line `k`, after the limits on the count and the length of lines are checked
abbrev pub take_line : {D : Type 0} → Taking D → ℕ → D → List ℕ → LineResult D
take_line taking k d line =
    if nat_lt most_lines k then Err (codes "TooManyLines")
    else (if nat_lt longest_line (length line) then Err (codes "LineTooLong") else taking k d line)

-- the text that reports that line `k` is refused, for this cause
abbrev pub refused_text : ℕ → List ℕ → List ℕ
refused_text k cause = codes "refused: line " ++ (decimal k ++ (codes ": " ++ (cause ++ codes "\n")))

-- the text that is printed for a line, refused or not
abbrev pub printed : {D : Type 0} → ℕ → LineResult D → List ℕ
printed k (Ok taken) = taken.text
printed k (Err cause) = refused_text k cause

-- ---- all lines

-- how the processing ends: all lines were processed, or a line is refused, given by its number and the text of the cause
pub data Ending : Type 0 where
  done : Ending
  refused : ℕ → List ℕ → Ending

-- a line is refused
abbrev pub IsRefused : Ending → Type 0
IsRefused done = ⊥
IsRefused (refused k cause) = Unit {0}

-- the text that is printed last: the report of a refused line, if there is one
abbrev pub ending_text : Ending → List ℕ
ending_text done = []
ending_text (refused k cause) = refused_text k cause

-- the text that is printed by the lines before the first refused one (all lines if none is refused), how the processing ends, and the
-- state after these lines
pub record LinesOutcome (D : Type 0) : Type 0 where
  pub text : List ℕ
  pub ending : Ending
  pub desk : D

-- all that is printed
abbrev pub whole_text : {D : Type 0} → LinesOutcome D → List ℕ
whole_text outcome = outcome.text ++ ending_text outcome.ending

-- an outcome with some text printed before it
abbrev pub begun_by : {D : Type 0} → List ℕ → LinesOutcome D → LinesOutcome D
begun_by text outcome = record { text = text ++ outcome.text; ending = outcome.ending; desk = outcome.desk }

-- the outcome of a line and, unless it is refused, of the lines after it
abbrev pub followed : {D : Type 0} → ℕ → D → LineResult D → (D → LinesOutcome D) → LinesOutcome D
followed k d (Err cause) rest = record { text = []; ending = refused k cause; desk = d }
followed k d (Ok taken) rest = begun_by taken.text (rest taken.desk)

-- the outcome of the lines from line `k` on, if `d` is the state before them
abbrev pub take_from : {D : Type 0} → Taking D → ℕ → D → List (List ℕ) → LinesOutcome D
take_from taking k d [] = record { text = []; ending = done; desk = d }
take_from taking k d (line ∷ more) = followed k d (take_line taking k d line) (λ after. take_from taking (k + 1) after more)

-- the outcome of the lines of a whole input
abbrev pub lines_outcome : {D : Type 0} → Taking D → D → List ℕ → LinesOutcome D
lines_outcome taking d bytes = take_from taking 1 d (lines bytes)

-- the outcome of the lines that end with a line feed in these bytes
abbrev pub ended_lines_outcome : {D : Type 0} → Taking D → D → List ℕ → LinesOutcome D
ended_lines_outcome taking d bytes = take_from taking 1 d (ended_lines bytes)

-- the outcome of the first `count` lines of these bytes
abbrev pub first_lines_outcome : {D : Type 0} → Taking D → D → ℕ → List ℕ → LinesOutcome D
first_lines_outcome taking d count bytes = take_from taking 1 d (take count (lines bytes))
