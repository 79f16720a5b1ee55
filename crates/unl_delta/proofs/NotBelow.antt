-- A batch that applies never gives an older version.
use Rattle.std.proofs.Common.{◌≡◌, ℕ, List, [], ◌∷◌, Bool, true, false, cond, Option, Some, None, inr, refl, arith, leb, ltb, leb-false, unwrap_or}
use Rattle.unl_delta.specs.declared.batch.Batch.{Batch}
use Rattle.unl_delta.specs.declared.batch.Verdict.{Verdict}
use Rattle.unl_delta.specs.declared.batch.Verdict.TheVariants.{Apply, Repeat, Old, Gap}
use Rattle.unl_delta.specs.declared.event.Event.{Event}
use Rattle.unl_delta.specs.declared.event.Event.TheVariants.{Hydration, FeatureUpdated, FeatureRemoved, SegmentUpdated, SegmentRemoved}
use Rattle.unl_delta.specs.declared.version.EnvVersion.{EnvVersion}
use Rattle.unl_delta.specs.declared.version.Place.{Place}
use Rattle.unl_delta.specs.Batch.{changes_verdict, empty_version, from_hydration, go_on, hydration_verdict, last_number, next_on, next_version, verdict_of, verdict_on}
use Rattle.unl_delta.specs.History.{IsNotBelow}
use Rattle.unl_delta.specs.Revision.{is_older, revision_of, IsNotOlder}
use Rattle.unl_delta.specs.State.{number_of}
use Rattle.unl_delta.proofs.Revisions.{not_older, up_to_both, up_to_itself}

-- ---- the order of versions

pub not_below_itself : (v : Option EnvVersion) → IsNotBelow v v
not_below_itself None = tt
not_below_itself (Some v) = up_to_itself (revision_of v)

pub not_below_both : (a b c : Option EnvVersion) → IsNotBelow a b → IsNotBelow b c → IsNotBelow a c
not_below_both None b c ab bc = tt
not_below_both (Some a) None c ab bc = absurd ab
not_below_both (Some a) (Some b) None ab bc = absurd bc
not_below_both (Some a) (Some b) (Some c) ab bc = up_to_both (revision_of a) (revision_of b) (revision_of c) ab bc

-- ---- a batch that applies never gives an older version

pub hydration_not_below : (version : Option EnvVersion) (held : Bool) (new : EnvVersion) → hydration_verdict version held new.epoch new.number ≡ Apply → IsNotBelow version (Some new)
hydration_not_below None held new is = tt
hydration_not_below (Some v) held new is = decided (is_older (revision_of new) (revision_of v)) _ refl is
  where
    decided : (t : Bool) (else_ : Verdict) → is_older (revision_of new) (revision_of v) ≡ t → cond t Old else_ ≡ Apply → IsNotOlder (revision_of v) (revision_of new)
    decided true else_ t_is so = absurd cc
    decided false else_ t_is so = not_older (revision_of v) (revision_of new) t_is

changes_not_below : (version : Option EnvVersion) (held : Bool) (g : ℕ) (after : Option ℕ) (event : Event) (es : List Event) → changes_verdict version held g after (last_number (number_of event) es) ≡ Apply
    → IsNotBelow version (Some (go_on (unwrap_or version empty_version) (event ∷ es)))
changes_not_below None held g after event es is = tt
changes_not_below (Some v) true g after event es is = absurd cc
changes_not_below (Some v) false g after event es is = decided (ltb g v.epoch) (ltb v.epoch g) (leb (last_number (number_of event) es) v.number) _ refl is
  where
    decided : (p q s : Bool) (else_ : Verdict) → leb (last_number (number_of event) es) v.number ≡ s → cond p Old (cond q Gap (cond s Repeat else_)) ≡ Apply
        → IsNotOlder (revision_of v) (revision_of (go_on v (event ∷ es)))
    decided true q s else_ s_is so = absurd cc
    decided false true s else_ s_is so = absurd cc
    decided false false true else_ s_is so = absurd cc
    decided false false false else_ s_is so = inr (refl, omega (arith, leb-false (last_number (number_of event) es) v.number s_is))

next_on_not_below : (place : Place) (g : ℕ) (after : Option ℕ) (es : List Event) → verdict_on place g after es ≡ Apply → IsNotBelow place.version (Some (next_on g (unwrap_or place.version empty_version) es))
next_on_not_below place g after [] is = absurd cc
next_on_not_below place g after (Hydration n state ∷ es) is = hydration_not_below place.version place.held (from_hydration g n state es) is
next_on_not_below place g after (FeatureUpdated n feature ∷ es) is = changes_not_below place.version place.held g after (FeatureUpdated n feature) es is
next_on_not_below place g after (FeatureRemoved n name project ∷ es) is = changes_not_below place.version place.held g after (FeatureRemoved n name project) es is
next_on_not_below place g after (SegmentUpdated n segment ∷ es) is = changes_not_below place.version place.held g after (SegmentUpdated n segment) es is
next_on_not_below place g after (SegmentRemoved n id ∷ es) is = changes_not_below place.version place.held g after (SegmentRemoved n id) es is

pub next_not_below : (place : Place) (batch : Batch) → verdict_of place batch ≡ Apply → IsNotBelow place.version (Some (next_version place batch))
next_not_below place batch is = next_on_not_below place batch.epoch batch.after batch.events is
