-- One turn of the loop over the lines, which reads and processes one line: the bytes consumed, and the text sent.
use Rattle.std.specs.Prelude.{◌≡◌, ℕ, ◌+◌, ◌≤◌, List, [], ◌∷◌, ◌++◌, Option, Result, Ok, Err, false}
use Rattle.unl_base.specs.Streams.{Sends, SendsPrefix}
use Rattle.unl_input.specs.declared.taking.LinesFault.{LinesFault}
use Rattle.unl_input.specs.declared.taking.LinesFault.TheVariants.{Bad, ReadFault, WriteFault, Memory}
use Rattle.unl_input.specs.declared.taking.Progress.{Progress}
use Rattle.unl_input.specs.declared.taking.Progress.TheVariants.{Answered as Line, Over}
use Rattle.unl_input.specs.Lines.{lines, has_end}
use Rattle.unl_input.specs.Reading.{Gets, IsAtEnd, BeginsLine}
use Rattle.unl_input.specs.Taken.{LineResult, LinesOutcome, Taking, done, refused, take_from, take_line, whole_text, refused_text, printed}

-- the part of the report of a refused line that was sent: all of it (`Bad`), a prefix (`WriteFault`) or nothing (`Memory`)
abbrev pub PrintsCause : LinesFault → ℕ → List ℕ → Option (List ℕ) → Option (List ℕ) → Type 0
PrintsCause Bad k cause old new = Sends old (refused_text k cause) new
PrintsCause ReadFault k cause old new = ⊥
PrintsCause WriteFault k cause old new = SendsPrefix old (refused_text k cause) new
PrintsCause Memory k cause old new = new ≡ old

-- The part that was sent of the text for line `k`, whose specified result is `comes`. The text is the line's output or, if the line is
-- refused, the report of the refusal. All of it was sent, a prefix if a write failed, or nothing if memory ran out.
abbrev pub Prints : {D : Type 0} → Result (Unit {0}) LinesFault → ℕ → LineResult D → D → Option (List ℕ) → Option (List ℕ) → Type 0
Prints (Ok u) k comes desk old new = (text : List ℕ) × (comes ≡ Ok (record { text = text; desk = desk })) × Sends old text new
Prints (Err Bad) k comes desk old new = (cause : List ℕ) × (comes ≡ Err cause) × Sends old (refused_text k cause) new
Prints (Err ReadFault) k comes desk old new = ⊥
Prints (Err WriteFault) k comes desk old new = SendsPrefix old (printed k comes) new
Prints (Err Memory) k comes desk old new = new ≡ old

-- The state satisfies `fits` for the number of the next line or, at the end of the input, for some number up to that one.
abbrev pub FitsAfter : {D : Type 0} → (ℕ → D → Type 0) → ℕ → Progress → D → Type 0
FitsAfter fits k Line desk = fits (k + 1) desk
FitsAfter fits k Over desk = (n : ℕ) × (n ≤ k + 1) × fits n desk

-- the state that the lines change, the bytes in the buffer, the bytes still to be read, and the bytes sent; `None` if not observable
pub record LinesScene (D : Type 0) : Type 0 where
  pub desk : D
  pub held : List ℕ
  pub left : Option (List ℕ)
  pub sent : Option (List ℕ)

-- these bytes were consumed
abbrev pub ConsumesBytes : {D : Type 0} → LinesScene D → List ℕ → LinesScene D → Type 0
ConsumesBytes before out after = Gets before.held before.left out after.held after.left

-- what can follow the consumed bytes: nothing at the end of the input, otherwise any bytes
abbrev pub MayFollow : {D : Type 0} → LinesScene D → List ℕ → Type 0
MayFollow after rest = IsAtEnd after.held after.left → rest ≡ []

-- line `k` was accepted and processed, its line feed was consumed, and its output was sent
pub record ProcessesLine {D : Type 0} (taking : Taking D) (k : ℕ) (before after : LinesScene D) : Type 0 where
  pub line : List ℕ
  pub unbroken : has_end line ≡ false
  pub text : List ℕ
  pub got : ConsumesBytes before (line ++ 10 ∷ []) after
  pub is : take_line taking k before.desk line ≡ Ok (record { text = text; desk = after.desk })
  pub sent : Sends before.sent text after.sent

-- the input was read to its end, its lines from line `k` on were processed, and their output was sent
pub record ReachesEnd {D : Type 0} (taking : Taking D) (k : ℕ) (before after : LinesScene D) : Type 0 where
  pub out : List ℕ
  pub text : List ℕ
  pub got : ConsumesBytes before out after
  pub end : IsAtEnd after.held after.left
  pub is : take_from taking k before.desk (lines out) ≡ record { text = text; ending = done; desk = after.desk }
  pub sent : Sends before.sent text after.sent

-- line `k` is refused, no matter which bytes follow, and the whole report of the refusal was sent
pub record IsRefusedAt {D : Type 0} (taking : Taking D) (k : ℕ) (before after : LinesScene D) : Type 0 where
  pub out : List ℕ
  pub cause : List ℕ
  pub got : ConsumesBytes before out after
  pub is : (rest : List ℕ) → MayFollow after rest
      → take_from taking k before.desk (lines (out ++ rest)) ≡ record { text = []; ending = refused k cause; desk = before.desk }
  pub sent : Sends before.sent (refused_text k cause) after.sent

-- the whole text of the outcome begins with these bytes
abbrev pub TextBeginsWith : {D : Type 0} → List ℕ → LinesOutcome D → Type 0
TextBeginsWith text outcome = (tail : List ℕ) × (whole_text outcome ≡ text ++ tail)

-- what was sent is, no matter which bytes follow, a prefix of the text that is printed from line `k` on
pub record PrintsPrefix {D : Type 0} (taking : Taking D) (k : ℕ) (before after : LinesScene D) : Type 0 where
  pub out : List ℕ
  pub text : List ℕ
  pub got : ConsumesBytes before out after
  pub is : (rest : List ℕ) → MayFollow after rest → TextBeginsWith text (take_from taking k before.desk (lines (out ++ rest)))
  pub sent : SendsPrefix before.sent text after.sent

-- a read failed: nothing was printed, at most part of a line was consumed, and the buffer is empty
pub record StopsReading {D : Type 0} (before after : LinesScene D) : Type 0 where
  pub begun : BeginsLine before.held before.left after.held after.left
  pub none : after.held ≡ []
  pub sent : after.sent ≡ before.sent

-- memory ran out: nothing was printed; some bytes may have been consumed
pub record RunsOutAtLine {D : Type 0} (before after : LinesScene D) : Type 0 where
  pub out : List ℕ
  pub got : ConsumesBytes before out after
  pub sent : after.sent ≡ before.sent

-- the effect of one turn, by its result
abbrev pub HasTurnEffect : {D : Type 0} → Taking D → Result Progress LinesFault → ℕ → LinesScene D → LinesScene D → Type 0
HasTurnEffect taking (Ok Line) k before after = ProcessesLine taking k before after
HasTurnEffect taking (Ok Over) k before after = ReachesEnd taking k before after
HasTurnEffect taking (Err Bad) k before after = IsRefusedAt taking k before after
HasTurnEffect taking (Err ReadFault) k before after = StopsReading before after
HasTurnEffect taking (Err WriteFault) k before after = PrintsPrefix taking k before after
HasTurnEffect taking (Err Memory) k before after = RunsOutAtLine before after
