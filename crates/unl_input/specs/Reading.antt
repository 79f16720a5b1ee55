-- The effect of reading lines through a buffer. `held` are the bytes in the buffer, and `left` are the bytes still to be read from the
-- source (`None` if these are not observable). The names with `_after` are the values after the call.
use Rattle.std.specs.Prelude.{◌≡◌, ◌≢◌, ℕ, ◌<◌, ◌≤◌, List, [], ◌∷◌, ◌++◌, length, Option, Bool, true, false}
use Rattle.unl_base.specs.Streams.{Takes, HasEnded}
use Rattle.unl_input.specs.declared.reader.NextLine.{NextLine}
use Rattle.unl_input.specs.declared.reader.NextLine.TheVariants.{Line, Last, End}
use Rattle.unl_input.specs.declared.reader.ReadFault.{ReadFault}
use Rattle.unl_input.specs.declared.reader.ReadFault.TheVariants.{Failed, TooLong, Memory}
use Rattle.unl_input.specs.Lines.{has_end}

-- A call consumed the bytes `out`: it appended the bytes `read` from the source to the buffer, and removed `out` from the buffer's start.
pub record Gets
    (held : List ℕ) (left : Option (List ℕ)) (out held_after : List ℕ) (left_after : Option (List ℕ)) : Type 0 where
  pub read : List ℕ
  pub took : Takes left read left_after
  pub split : held ++ read ≡ out ++ held_after

-- nothing is held, and the source has ended
abbrev pub IsAtEnd : List ℕ → Option (List ℕ) → Type 0
IsAtEnd held left = (held ≡ []) × HasEnded left

-- the most bytes that a line may have, without its line feed
abbrev pub longest_line : ℕ
longest_line = 16777216

-- a line within the limit and without a line feed
pub record IsTextLine (line : List ℕ) : Type 0 where
  pub unbroken : has_end line ≡ false
  pub short : length line ≤ longest_line

-- bytes are held (`true`), or the input has ended (`false`); nothing was consumed
abbrev pub Fills : Bool → List ℕ → Option (List ℕ) → List ℕ → Option (List ℕ) → Type 0
Fills true held left held_after left_after = Gets held left [] held_after left_after × (0 < length held_after)
Fills false held left held_after left_after = Gets held left [] held_after left_after × IsAtEnd held_after left_after

-- The rest of a line and its line feed were removed from the start of the held bytes. `line` is the part of the line that was removed
-- earlier, and `line_after` is the whole line, which is within the limit.
pub record EndsLine (line held line_after held_after : List ℕ) : Type 0 where
  pub piece : List ℕ
  pub unbroken : has_end piece ≡ false
  pub grown : line_after ≡ line ++ piece
  pub short : length line_after ≤ longest_line
  pub split : held ≡ piece ++ 10 ∷ held_after

-- At least one byte, and no line feed, was removed from the start of the held bytes. `line` is the part of the line that was removed
-- earlier, and `line_after` is `line` with the bytes removed now appended.
pub record GrowsLine (line held line_after held_after : List ℕ) : Type 0 where
  pub piece : List ℕ
  pub unbroken : has_end piece ≡ false
  pub grown : line_after ≡ line ++ piece
  pub some : length line < length line_after
  pub split : held ≡ piece ++ held_after

-- bytes of a line were consumed, with its line feed if that was found (`true`)
abbrev pub ConsumesPiece : Bool → List ℕ → List ℕ → List ℕ → List ℕ → Type 0
ConsumesPiece true line held line_after held_after = EndsLine line held line_after held_after
ConsumesPiece false line held line_after held_after = GrowsLine line held line_after held_after

-- the next item was consumed: a line with its line feed, the last line without one, or nothing at the end
abbrev pub TakesNext : NextLine → List ℕ → Option (List ℕ) → List ℕ → Option (List ℕ) → Type 0
TakesNext (Line line) held left held_after left_after = IsTextLine line.items × Gets held left (line.items ++ 10 ∷ []) held_after left_after
TakesNext (Last line) held left held_after left_after =
    IsTextLine line.items × (line.items ≢ []) × Gets held left line.items held_after left_after × IsAtEnd held_after left_after
TakesNext End held left held_after left_after = Gets held left [] held_after left_after × IsAtEnd held_after left_after

-- part of a line was consumed, or nothing
pub record BeginsLine (held : List ℕ) (left : Option (List ℕ)) (held_after : List ℕ) (left_after : Option (List ℕ)) : Type 0 where
  pub prefix : List ℕ
  pub unbroken : has_end prefix ≡ false
  pub got : Gets held left prefix held_after left_after

-- part of a line was consumed, and the line is already too long
pub record BeginsLong (held : List ℕ) (left : Option (List ℕ)) (held_after : List ℕ) (left_after : Option (List ℕ)) : Type 0 where
  pub begun : BeginsLine held left held_after left_after
  pub long : longest_line < length begun.prefix

-- What was consumed although no line was returned: the start of a line, or nothing. If the source failed, nothing is held afterwards. If
-- the line is too long, more bytes were consumed than a line may have.
abbrev pub StopsAtFault : ReadFault → List ℕ → Option (List ℕ) → List ℕ → Option (List ℕ) → Type 0
StopsAtFault Failed held left held_after left_after = BeginsLine held left held_after left_after × (held_after ≡ [])
StopsAtFault TooLong held left held_after left_after = BeginsLong held left held_after left_after
StopsAtFault Memory held left held_after left_after = BeginsLine held left held_after left_after
