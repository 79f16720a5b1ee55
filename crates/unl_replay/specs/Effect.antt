-- The result of processing one line, compared with its specification.
use Rattle.std.specs.Prelude.{◌≡◌, ◌≢◌, ℕ, Result, Ok, Err, Vec}
use Rattle.std.specs.declared.alloc.Global.{Global}
use Rattle.unl_input.specs.Taken.{Taken}
use Rattle.unl_replay.specs.declared.refusal.Refusal.{Refusal}
use Rattle.unl_replay.specs.declared.refusal.Refusal.TheVariants.{Memory}
use Rattle.unl_replay.specs.Refusals.{LineReading}

-- The printed line and the state after it, or the refusal, are those of the specification, `stated`. If memory ran out, nothing is claimed.
abbrev pub HasEffect : {D : Type 0} → Result (Vec ℕ Global) Refusal → D → LineReading (Taken D) → Type 0
HasEffect (Ok line) after stated = stated ≡ Ok (record { text = line.items; desk = after })
HasEffect (Err refusal) after stated = refusal ≢ Memory → stated ≡ Err refusal
