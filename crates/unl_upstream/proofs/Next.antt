-- The next event after a version, and its batch.
use Rattle.std.proofs.Common.{◌≡◌, ℕ, ◌<◌, List, [], ◌∷◌, Bool, true, false, cond, Option, Some, All, refl, subst, arith, leb, ltb}
use Rattle.std.specs.Prelude.{find, option_map}
use Rattle.std.specs.Str.{bytes_eq}
use Rattle.std.proofs.lemmas.Bool.{le-leb, le-ltb, lt-leb}
use Rattle.std.proofs.lemmas.List.Elements.{All-head, All-tail}
use Rattle.std.proofs.lemmas.Option.{none-some, same_Some}
use Rattle.unl_core.proofs.Same.{text_same}
use Rattle.unl_delta.specs.declared.batch.Verdict.TheVariants.{Apply}
use Rattle.unl_delta.specs.declared.event.Event.{Event}
use Rattle.unl_delta.specs.declared.event.Event.TheVariants.{Hydration, FeatureUpdated, FeatureRemoved, SegmentUpdated, SegmentRemoved}
use Rattle.unl_delta.specs.declared.version.EnvVersion.{EnvVersion}
use Rattle.unl_delta.specs.Batch.{changes_verdict, verdict_of}
use Rattle.unl_delta.specs.State.{project_of}
use Rattle.unl_delta.specs.Valid.{IsValidBatch}
use Rattle.unl_documents.specs.declared.feature.Feature.{Feature}
use Rattle.unl_documents.specs.Limits.{IsName}
use Rattle.unl_documents.specs.Valid.{IsValidFeature}
use Rattle.unl_upstream.specs.Upstream.{IsNext, batch_of, is_feature_named, place_with}

-- ---- the batch of the next event

-- a batch in the version's epoch, from its number up to a higher one, is to be applied
later_applies : (v : EnvVersion) (n : ℕ) → v.number < n → changes_verdict (Some v) false v.epoch (Some v.number) n ≡ Apply
later_applies v n above =
    let same : ltb v.epoch v.epoch ≡ false = le-ltb v.epoch v.epoch (omega arith) in
    let past : leb n v.number ≡ false = lt-leb n v.number above in
    let reached : leb v.number v.number ≡ true = le-leb v.number v.number (omega arith) in
    rw (same, past, reached) refl

-- the batch of the next event is to be applied
pub next_applies : (v : EnvVersion) (event : Event) → IsNext v event → verdict_of (place_with v) (batch_of v event) ≡ Apply
next_applies v (Hydration n state) next = absurd (no_change next.change)
  where
    no_change : false ≡ true → ⊥
    no_change is = cc
next_applies v (FeatureUpdated n feature) next = later_applies v n (omega (arith, next.number))
next_applies v (FeatureRemoved n name project) next = later_applies v n (omega (arith, next.number))
next_applies v (SegmentUpdated n segment) next = later_applies v n (omega (arith, next.number))
next_applies v (SegmentRemoved n id) next = later_applies v n (omega (arith, next.number))

-- the batch of the next event is a valid batch
pub next_is_batch : (v : EnvVersion) (event : Event) → IsNext v event → IsValidBatch (batch_of v event)
next_is_batch v event next = record { order = record { changes = tt; numbers = (omega arith, tt) }; events = (next.valid, tt) }

-- ---- the feature with a given name

-- the project of a feature, if one was found
abbrev pub project_found : Option Feature → Option (List ℕ)
project_found found = option_map (λ feature. feature.project) found

-- `project_of` is the project of the first feature with the name
pub found_project : (name : List ℕ) (features : List Feature) → project_found (find (is_feature_named name) features) ≡ project_of name features
found_project name [] = refl
found_project name (f ∷ fs) = decided (bytes_eq f.name name) (found_project name fs)
  where
    decided : (t : Bool) → project_found (find (is_feature_named name) fs) ≡ project_of name fs
        → project_found (cond t (Some f) (find (is_feature_named name) fs)) ≡ cond t (Some f.project) (project_of name fs)
    decided true others = refl
    decided false others = others

-- an existing feature has a name and a project within the limits
pub named_within : (name project : List ℕ) (features : List Feature) → All IsValidFeature features → project_of name features ≡ Some project → IsName name × IsName project
named_within name project [] valid is = absurd (none-some project is)
named_within name project (f ∷ fs) valid is = decided (bytes_eq f.name name) refl is (named_within name project fs (All-tail IsValidFeature f fs valid))
  where
    decided : (t : Bool) → bytes_eq f.name name ≡ t → cond t (Some f.project) (project_of name fs) ≡ Some project
        → (project_of name fs ≡ Some project → IsName name × IsName project) → IsName name × IsName project
    decided true here found others =
        let head : IsValidFeature f = All-head IsValidFeature f fs valid in
        let same : f.project ≡ project = same_Some f.project project found in
        (subst IsName (text_same f.name name here) head.name, subst IsName same head.project)
    decided false here more others = others more
