-- The effect of processing one line.
use Rattle.std.specs.Prelude.{◌≡◌, ⊤, ℕ, Result, Ok, Err, Vec}
use Rattle.std.specs.declared.alloc.Global.{Global}
use Rattle.unl_input.specs.declared.line.LineRefusal.{LineRefusal}
use Rattle.unl_input.specs.declared.line.LineRefusal.TheVariants.{Cause, Memory}
use Rattle.unl_input.specs.Taken.{LineResult}

-- The processing of a line agrees with the line's specified result `comes`: both give the same text and the same state (`after`), or both
-- refuse the line for the same cause. If memory ran out, nothing is claimed.
abbrev pub TakesLine : {D : Type 0} → Result (Vec ℕ Global) LineRefusal → D → LineResult D → Type 0
TakesLine (Ok text) after comes = comes ≡ Ok (record { text = text.items; desk = after })
TakesLine (Err (Cause cause)) after comes = comes ≡ Err cause
TakesLine (Err Memory) after comes = ⊤
