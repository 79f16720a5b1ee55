-- Lemmas: the desk and the printed line after a batch, for each verdict on the batch (whether it is applied, or why not).
use Rattle.std.proofs.Common.{◌≡◌, ℕ, Result, Ok, ap, subst, ◌∙◌}
use Rattle.std.specs.Prelude.{Vec}
use Rattle.std.specs.declared.alloc.Global.{Global}
use Rattle.unl_core.specs.DeskStates.{DeskState, installed_by, with_batch, with_hold}
use Rattle.unl_delta.specs.Batch.{verdict_of}
use Rattle.unl_delta.specs.Installing.{ByVerdict, place_of}
use Rattle.unl_delta.specs.declared.batch.Batch.{Batch}
use Rattle.unl_delta.specs.declared.batch.Verdict.{Verdict}
use Rattle.unl_delta.specs.declared.batch.Verdict.TheVariants.{Apply, Repeat, Old, Gap, Held}
use Rattle.unl_replay.specs.Replay.{DeskEffect, after_verdict, effect_of_verdict, with_verdict_line, word_of}
use Rattle.unl_replay.specs.Effect.{HasEffect}
use Rattle.unl_replay.specs.declared.refusal.Refusal.{Refusal}

desk_after_verdict : (v : Verdict) (slot : ℕ) (batch : Batch) (d after : DeskState)
    → ByVerdict v (after ≡ with_batch slot batch d) (after ≡ with_hold slot d) (after ≡ d) → after ≡ after_verdict v slot batch d
desk_after_verdict Apply slot batch d after is = is
desk_after_verdict Gap slot batch d after is = is
desk_after_verdict Repeat slot batch d after is = is
desk_after_verdict Old slot batch d after is = is
desk_after_verdict Held slot batch d after is = is

-- the printed line and the desk after a batch are those of the specification for the verdict, or memory ran out
pub line_of_verdict : (said : Result (Vec ℕ Global) Refusal) (k slot : ℕ) (batch : Batch) (d after : DeskState) (v : Verdict)
    → v ≡ verdict_of (place_of (installed_by d) slot) batch
    → ByVerdict v (after ≡ with_batch slot batch d) (after ≡ with_hold slot d) (after ≡ d)
    → HasEffect said after (Ok (with_verdict_line k (word_of v) slot after))
    → HasEffect said after (Ok (effect_of_verdict k slot batch d (verdict_of (place_of (installed_by d) slot) batch)))
line_of_verdict said k slot batch d after v is by steps =
    subst (λ (a : DeskEffect). HasEffect said after (Ok a)) (ap (with_verdict_line k (word_of v) slot) (desk_after_verdict v slot batch d after by) ∙ ap (effect_of_verdict k slot batch d) is) steps
