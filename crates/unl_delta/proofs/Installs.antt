-- The place of a slot (the version of one environment, if there is one, and whether the slot is held) after an install, a hold or a batch.
use Rattle.std.proofs.Common.{◌≡◌, ℕ, ◌<◌, length, true, false, Option, Some, Result, Ok, Err, OnOk, IfOk, refl, sym, ap, subst, ◌∙◌}
use Rattle.std.specs.Prelude.{slice_set}
use Rattle.std.proofs.lemmas.List.{get_or-set_same}
use Rattle.std.proofs.lemmas.Option.{unwrap_or-slice_get}
use Rattle.unl_delta.specs.declared.batch.Batch.{Batch}
use Rattle.unl_delta.specs.declared.batch.Verdict.{Verdict}
use Rattle.unl_delta.specs.declared.batch.Verdict.TheVariants.{Apply, Repeat, Old, Gap, Held}
use Rattle.unl_delta.specs.declared.version.EnvVersion.{EnvVersion}
use Rattle.unl_delta.specs.declared.version.Place.{Place}
use Rattle.unl_delta.specs.Batch.{empty_place, next_version, verdict_of, after_verdict}
use Rattle.unl_delta.specs.History.{PreservesLines}
use Rattle.unl_delta.specs.Installing.{Installed, place_of, with_place, after_install, after_hold, after_batch}
use Rattle.unl_delta.proofs.Delivery.{taken_follows, next_follows}

-- after a place is set at a slot, it is the place of the slot
pub placed : (slot : ℕ) (place : Place) (now : Installed) → slot < length now.places → place_of (with_place slot place now) slot ≡ place
placed slot place now low = unwrap_or-slice_get (slice_set now.places slot place) slot empty_place ∙ get_or-set_same now.places slot place empty_place low

-- after an install, the slot's version still represents the line, and is not older
pub installed_follows : (slot : ℕ) (batch : Batch) (old new : Installed) → slot < length old.places → verdict_of (place_of old slot) batch ≡ Apply
    → new ≡ after_install slot batch old → PreservesLines (place_of old slot).version batch (place_of new slot).version
installed_follows slot batch old new low applies is =
    let v : EnvVersion = next_version (place_of old slot) batch in
    let here : (place_of new slot).version ≡ Some v =
    ap (λ (now : Installed). (place_of now slot).version) is ∙ ap (λ (p : Place). p.version) (placed slot (record { version = Some v; held = false }) old low) in
    subst (λ (o : Option EnvVersion). PreservesLines (place_of old slot).version batch o) (sym here) (next_follows (place_of old slot) batch v applies refl)

-- the same for an install that may fail
pub install_follows : {E : Type 0} (r : Result ℕ E) (slot : ℕ) (batch : Batch) (old new : Installed) → slot < length old.places → verdict_of (place_of old slot) batch ≡ Apply
    → OnOk r (new ≡ after_install slot batch old) → OnOk r (PreservesLines (place_of old slot).version batch (place_of new slot).version)
install_follows (Err e) slot batch old new low applies is = tt
install_follows (Ok front) slot batch old new low applies is = installed_follows slot batch old new low applies is

-- holding a slot keeps its version
pub hold_keeps : (slot : ℕ) (old new : Installed) → slot < length old.places → new ≡ after_hold slot old → (place_of new slot).version ≡ (place_of old slot).version
hold_keeps slot old new low is =
    ap (λ (now : Installed). (place_of now slot).version) is
    ∙ ap (λ (p : Place). p.version) (placed slot (record { version = (place_of old slot).version; held = true }) old low)

-- the slot's place after a batch is the place after the verdict
pub batch_placed : (verdict : Verdict) (slot : ℕ) (batch : Batch) (now : Installed) → slot < length now.places → place_of (after_batch verdict slot batch now) slot ≡ after_verdict verdict (place_of now slot) batch
batch_placed Apply slot batch now low = placed slot (record { version = Some (next_version (place_of now slot) batch); held = false }) now low
batch_placed Gap slot batch now low = placed slot (record { version = (place_of now slot).version; held = true }) now low
batch_placed Repeat slot batch now low = refl
batch_placed Old slot batch now low = refl
batch_placed Held slot batch now low = refl

-- after a slot takes a batch, its version still represents the line, and is not older
pub batch_follows : {E : Type 0} (r : Result Verdict E) (slot : ℕ) (batch : Batch) (old new : Installed) → slot < length old.places → IfOk r (λ v. v ≡ verdict_of (place_of old slot) batch)
    → IfOk r (λ v. new ≡ after_batch v slot batch old) → OnOk r (PreservesLines (place_of old slot).version batch (place_of new slot).version)
batch_follows (Err e) slot batch old new low does is = tt
batch_follows (Ok verdict) slot batch old new low does is =
    let here : place_of new slot ≡ after_verdict verdict (place_of old slot) batch = ap (λ (now : Installed). place_of now slot) is ∙ batch_placed verdict slot batch old low in
    subst (λ (p : Place). PreservesLines (place_of old slot).version batch p.version) (sym here) (taken_follows (place_of old slot) batch verdict does)
