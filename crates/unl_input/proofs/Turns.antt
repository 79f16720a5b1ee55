-- The effect of a turn of the loop over the lines, by what was read of the next line.
use Rattle.std.proofs.Common.{◌≡◌, ◌≢◌, ℕ, ◌+◌, ◌<◌, ◌≤◌, List, [], ◌∷◌, ◌++◌, length, false, arith, Ok, Err, Option, refl, sym, ap, subst, ◌∙◌, append-nil}
use Rattle.std.specs.Prelude.{codes}
use Rattle.unl_base.specs.Streams.{Sends}
use Rattle.unl_input.specs.declared.taking.LinesFault.{LinesFault}
use Rattle.unl_input.specs.declared.taking.LinesFault.TheVariants.{Bad, ReadFault, WriteFault, Memory}
use Rattle.unl_input.specs.Lines.{lines, has_end}
use Rattle.unl_input.specs.Reading.{BeginsLine, BeginsLong, IsAtEnd, IsTextLine, longest_line}
use Rattle.unl_input.specs.Taken.{LineResult, LinesOutcome, Taking, done, followed, take_from, most_lines}
use Rattle.unl_input.specs.Whole.{TakesLines}
use Rattle.unl_input.specs.Turns.{LinesScene, ConsumesBytes, Prints, PrintsCause, ReachesEnd, RunsOutAtLine, StopsReading, HasTurnEffect}
use Rattle.unl_input.proofs.Lines.{line_first, last_line, long_first, some_first, sends_nothing}
use Rattle.unl_input.proofs.Whole.{Heads, Sofar, ends_at, errs, within_limits, past_limit, past_last}

-- if a line is refused for this cause, and `PrintsCause` holds for what was sent, `Prints` holds for it too
pub prints_cause : {D : Type 0} (fault : LinesFault) (k : ℕ) (cause : List ℕ) (comes : LineResult D) (desk : D) (old new : Option (List ℕ))
    → comes ≡ Err cause → PrintsCause fault k cause old new → Prints (Err fault) k comes desk old new
prints_cause {D = D} fault k cause comes desk old new is refuses =
    subst (λ (c : LineResult D). Prints (Err fault) k c desk old new) (sym is) (of_cause fault refuses)
  where
    of_cause : (fault : LinesFault) → PrintsCause fault k cause old new → (let c : LineResult D = Err cause in Prints (Err fault) k c desk old new)
    of_cause Bad refuses = (cause, refl, refuses)
    of_cause ReadFault refuses = refuses
    of_cause WriteFault refuses = refuses
    of_cause Memory refuses = refuses

-- ---- a line with its line feed

heads_line : {D : Type 0} (taking : Taking D) (k : ℕ) (d : D) (line : List ℕ) (after : LinesScene D) → k ≤ most_lines → IsTextLine line
    → Heads taking k d (line ++ 10 ∷ []) after (taking k d line)
unfolding Heads
heads_line taking k d line after few is = λ rest may. (line, lines rest, line_first line rest is.unbroken, within_limits taking k d line few is.short)

pub line_errs : {D : Type 0} (taking : Taking D) (fault : LinesFault) (k : ℕ) (before after : LinesScene D) (line : List ℕ) → k ≤ most_lines
    → IsTextLine line × ConsumesBytes before (line ++ 10 ∷ []) after
    → Prints (Err fault) k (taking k before.desk line) after.desk before.sent after.sent → HasTurnEffect taking (Err fault) k before after
line_errs taking fault k before after line few next prints =
    errs taking fault k before after (line ++ 10 ∷ []) (taking k before.desk line) after.desk prints next.1 (heads_line taking k before.desk line after few next.0)

-- ---- the last line, without a line feed

heads_last : {D : Type 0} (taking : Taking D) (k : ℕ) (d : D) (line : List ℕ) (after : LinesScene D) → k ≤ most_lines → IsTextLine line → line ≢ []
    → IsAtEnd after.held after.left → Heads taking k d line after (taking k d line)
unfolding Heads
heads_last taking k d line after few is some end = λ rest may.
    (line, [], ap (λ r. lines (line ++ r)) (may end) ∙ ap lines (append-nil line) ∙ last_line line is.unbroken some, within_limits taking k d line few is.short)

-- the last line, which has no line feed, was consumed, and the input has ended
abbrev pub TakesLast : {D : Type 0} → List ℕ → LinesScene D → LinesScene D → Type 0
TakesLast line before after = IsTextLine line × (line ≢ []) × ConsumesBytes before line after × IsAtEnd after.held after.left

pub last_errs : {D : Type 0} (taking : Taking D) (fault : LinesFault) (k : ℕ) (before after : LinesScene D) (line : List ℕ) → k ≤ most_lines
    → TakesLast line before after
    → Prints (Err fault) k (taking k before.desk line) after.desk before.sent after.sent → HasTurnEffect taking (Err fault) k before after
last_errs taking fault k before after line few next prints =
    errs taking fault k before after line (taking k before.desk line) after.desk prints next.2
    (heads_last taking k before.desk line after few next.0 next.1 next.3)

pub last_answered : {D : Type 0} (taking : Taking D) (k : ℕ) (before after : LinesScene D) (line : List ℕ) (u : Unit {0}) → k ≤ most_lines
    → TakesLast line before after
    → Prints (Ok u) k (taking k before.desk line) after.desk before.sent after.sent → ReachesEnd taking k before after
last_answered {D = D} taking k before after line u few next prints = record {
  out = line;
  text = prints.0;
  got = next.2;
  end = next.3;
  is = ap (take_from taking k before.desk) (last_line line next.0.unbroken next.1)
      ∙ ap (λ r. followed k before.desk r (λ desk. take_from taking (k + 1) desk [])) (within_limits taking k before.desk line few next.0.short ∙ prints.1)
      ∙ ap (λ t. let r : LinesOutcome D = record { text = t; ending = done; desk = after.desk } in r) (append-nil prints.0);
  sent = prints.2;
}

-- ---- no line is left

pub none_left : {D : Type 0} (taking : Taking D) (k : ℕ) (before after : LinesScene D) → ConsumesBytes before [] after × IsAtEnd after.held after.left
    → before.desk ≡ after.desk → before.sent ≡ after.sent → ReachesEnd taking k before after
none_left {D = D} taking k before after next kept same = record {
  out = [];
  text = [];
  got = next.0;
  end = next.1;
  is = ap (λ d. let r : LinesOutcome D = record { text = []; ending = done; desk = d } in r) kept;
  sent = subst (λ s. Sends before.sent [] s) same (sends_nothing before.sent);
}

-- ---- a line that is too long, and a line past the limit on the number of lines

heads_long : {D : Type 0} (taking : Taking D) (k : ℕ) (d : D) (prefix : List ℕ) (after : LinesScene D) → k ≤ most_lines → has_end prefix ≡ false
    → longest_line < length prefix → Heads taking k d prefix after (Err (codes "LineTooLong"))
unfolding Heads
heads_long taking k d prefix after few unbroken long = λ rest may.
    let first = long_first prefix rest unbroken long in
    (first.0, first.1, first.2, past_limit taking k d first.0 few first.3)

pub long_errs : {D : Type 0} (taking : Taking D) (fault : LinesFault) (k : ℕ) (before after : LinesScene D) → k ≤ most_lines
    → BeginsLong before.held before.left after.held after.left → PrintsCause fault k (codes "LineTooLong") before.sent after.sent
    → HasTurnEffect taking (Err fault) k before after
long_errs taking fault k before after few next refuses =
    errs taking fault k before after next.begun.prefix (Err (codes "LineTooLong")) after.desk
    (prints_cause fault k (codes "LineTooLong") (Err (codes "LineTooLong")) after.desk before.sent after.sent refl refuses) next.begun.got
    (heads_long taking k before.desk next.begun.prefix after few next.begun.unbroken next.long)

heads_past : {D : Type 0} (taking : Taking D) (k : ℕ) (d : D) (b : ℕ) (after : LinesScene D) → most_lines < k
    → Heads taking k d (b ∷ []) after (Err (codes "TooManyLines"))
unfolding Heads
heads_past taking k d b after past = λ rest may.
    let first = some_first b rest in
    (first.0, first.1, first.2, past_last taking k d first.0 past)

pub past_errs : {D : Type 0} (taking : Taking D) (fault : LinesFault) (k : ℕ) (before after : LinesScene D) (b : ℕ) → most_lines < k
    → ConsumesBytes before (b ∷ []) after → PrintsCause fault k (codes "TooManyLines") before.sent after.sent → HasTurnEffect taking (Err fault) k before after
past_errs taking fault k before after b past got refuses =
    errs taking fault k before after (b ∷ []) (Err (codes "TooManyLines")) after.desk
    (prints_cause fault k (codes "TooManyLines") (Err (codes "TooManyLines")) after.desk before.sent after.sent refl refuses) got
    (heads_past taking k before.desk b after past)

-- a read failed, and no byte was consumed
pub stops : {D : Type 0} (before after : LinesScene D) → ConsumesBytes before [] after × (after.held ≡ []) → after.sent ≡ before.sent → StopsReading before after
stops before after broken same = record {
  begun = record { prefix = []; unbroken = refl; got = broken.0 };
  none = broken.1;
  sent = same;
}

-- memory ran out while a line was read
pub runs_out : {D : Type 0} (before after : LinesScene D) → BeginsLine before.held before.left after.held after.left → after.sent ≡ before.sent
    → RunsOutAtLine before after
runs_out before after begun same = record { out = begun.prefix; got = begun.got; sent = same }

-- the effect of processing all lines, if a byte follows line 1,000,000, the last allowed one: line 1,000,001 is refused
pub ends_past : {D : Type 0} (taking : Taking D) (first : D) (fault : LinesFault) (start sent : Option (List ℕ)) (k : ℕ) (before after : LinesScene D) (b : ℕ)
    → k ≡ 1000001 → Sofar taking first start sent k before → ConsumesBytes before (b ∷ []) after
    → PrintsCause fault 1000001 (codes "TooManyLines") before.sent after.sent
    → TakesLines taking first (Err fault) start after.left sent after.sent
ends_past taking first fault start sent k before after b is sofar got refuses =
    ends_at taking first fault start sent 1000001 before after (subst (λ n. Sofar taking first start sent n before) is sofar)
    (past_errs taking fault 1000001 before after b (omega arith) got refuses)
