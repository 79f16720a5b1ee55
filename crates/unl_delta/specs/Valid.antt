-- Well-formed batches and versions (which kinds of events they have, and in which order), and valid batches and versions (well formed, with
-- contents within the limits).
use Rattle.std.specs.Prelude.{ℕ, ◌≡◌, ◌≤◌, ◌+◌, List, [], ◌∷◌, drop, length, true, IfSome}
use Rattle.std.specs.List.{AllByRecursion}
use Rattle.unl_documents.specs.Limits.{IsName}
use Rattle.unl_documents.specs.States.{IsValidState}
use Rattle.unl_documents.specs.Valid.{IsValidFeature, IsValidSegment}
use Rattle.unl_delta.specs.declared.event.Event.{Event}
use Rattle.unl_delta.specs.declared.event.Event.TheVariants.{Hydration, FeatureUpdated, FeatureRemoved, SegmentUpdated, SegmentRemoved}
use Rattle.unl_delta.specs.declared.event.Entry.{Entry}
use Rattle.unl_delta.specs.declared.batch.Batch.{Batch}
use Rattle.unl_delta.specs.declared.batch.DeltaAnswer.{DeltaAnswer}
use Rattle.unl_delta.specs.declared.batch.DeltaAnswer.TheVariants.{Same, Batch as Sent}
use Rattle.unl_delta.specs.declared.version.EnvVersion.{EnvVersion}
use Rattle.unl_delta.specs.declared.version.Place.{Place}
use Rattle.unl_delta.specs.State.{number_of, entry_number, is_change}

-- ---- the order of events

-- the items' numbers never decrease, and the first is at least `low`
abbrev pub NeverFall : {T : Type 0} → (T → ℕ) → ℕ → List T → Type 0
NeverFall number low [] = Unit {0}
NeverFall number low (x ∷ xs) = (low ≤ number x) × NeverFall number (number x) xs

-- the batch is well formed: only its first event can be a hydration, and the numbers never decrease
pub record IsBatch (batch : Batch) : Type 0 where
  pub changes : AllByRecursion (λ e. is_change e ≡ true) (drop 1 batch.events)
  pub numbers : NeverFall number_of 0 batch.events

-- the version is well formed: `base` (entries with numbers up to `base` are dropped) is at most the version's number, and the entries are
-- changes, whose numbers never decrease, are above `base` and are at most the version's number
pub record IsVersion (v : EnvVersion) : Type 0 where
  pub base : v.base ≤ v.number
  pub changes : AllByRecursion (λ entry. is_change entry.event ≡ true) v.entries
  pub numbers : NeverFall entry_number (v.base + 1) v.entries
  pub most : AllByRecursion (λ entry. entry_number entry ≤ v.number) v.entries

-- ---- the contents of events

-- the state, feature, segment or names of an event are within the limits of documents
abbrev pub IsValidEvent : Event → Type 0
IsValidEvent (Hydration n state) = IsValidState state
IsValidEvent (FeatureUpdated n feature) = IsValidFeature feature
IsValidEvent (FeatureRemoved n name project) = IsName name × IsName project
IsValidEvent (SegmentUpdated n segment) = IsValidSegment segment
IsValidEvent (SegmentRemoved n id) = Unit {0}

-- the event of an entry is within the limits, and so is `was`, if present: the project that the event's feature was in before the event
abbrev pub IsValidEntry : Entry → Type 0
IsValidEntry entry = IsValidEvent entry.event × IfSome entry.was IsName

-- the event can be read again after it is written: a hydration has at most 10,000 features and 1,000 segments
abbrev pub IsReadable : Event → Type 0
IsReadable (Hydration n state) = (length state.features ≤ 10000) × (length state.segments ≤ 1000)
IsReadable (FeatureUpdated n feature) = Unit {0}
IsReadable (FeatureRemoved n name project) = Unit {0}
IsReadable (SegmentUpdated n segment) = Unit {0}
IsReadable (SegmentRemoved n id) = Unit {0}

-- a valid batch: well formed, with valid events
pub record IsValidBatch (batch : Batch) : Type 0 where
  pub order : IsBatch batch
  pub events : AllByRecursion IsValidEvent batch.events

-- a valid version: well formed, with a valid state and valid entries
pub record IsValidVersion (v : EnvVersion) : Type 0 where
  pub order : IsVersion v
  pub state : IsValidState v.state
  pub entries : AllByRecursion IsValidEntry v.entries

-- the place has no version, or a valid version
abbrev pub IsValidPlace : Place → Type 0
IsValidPlace place = IfSome place.version IsValidVersion

-- the answer has no batch, or its batch is valid
abbrev pub IsValidAnswer : DeltaAnswer → Type 0
IsValidAnswer Same = Unit {0}
IsValidAnswer (Sent batch) = IsValidBatch batch
