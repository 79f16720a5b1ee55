-- The JSON tokens of events and batches.
use Rattle.std.proofs.Common.{◌≡◌, ℕ, List, [], ◌∷◌, ◌++◌, Option, Some, None, option_map, refl}
use Rattle.std.specs.Prelude.{All, codes}
use Rattle.std.specs.List.{AllByRecursion}
use Rattle.std.proofs.lemmas.List.Elements.{All-nil, All-cons}
use Rattle.json.specs.Token.{Token, begin_object, end_object}
use Rattle.serde_json.specs.Data.{string}
use Rattle.unl_documents.specs.declared.feature.Feature.{Feature}
use Rattle.unl_documents.specs.declared.field.Field.TheVariants as field
use Rattle.unl_documents.specs.declared.segment.Segment.{Segment}
use Rattle.unl_documents.specs.declared.state.State.{State}
use Rattle.unl_documents.specs.Tokens.{tokens_of, tokens_at, tokens_at_some}
use Rattle.unl_documents.specs.Writing.{count, list_data, unless_zero, feature_data, segment_data}
use Rattle.unl_delta.specs.declared.batch.Batch.{Batch}
use Rattle.unl_delta.specs.declared.event.Event.{Event}
use Rattle.unl_delta.specs.declared.event.Event.TheVariants.{Hydration, FeatureUpdated, FeatureRemoved, SegmentUpdated, SegmentRemoved}
use Rattle.unl_delta.specs.Valid.{IsValidEvent}
use Rattle.unl_delta.specs.Writing.{event_data, batch_with, batch_data}

pub all_events : (events : List Event) → AllByRecursion IsValidEvent events → All IsValidEvent events
all_events [] valid = All-nil IsValidEvent
all_events (e ∷ events) valid = All-cons IsValidEvent e events valid.0 (all_events events valid.1)

-- the tokens of an event with the type `word`, where `between` are the tokens of the keys between `eventId` and `type`
abbrev framed : ℕ → List Token → List ℕ → List Token
framed number between word = (begin_object ∷ tokens_at field.EventId (count number)) ++ (between ++ (tokens_at field.Kind (string word) ++ end_object ∷ []))

pub hydration_tokens : (number : ℕ) (state : State)
    → tokens_of (event_data (Hydration number state))
    ≡ (begin_object ∷ tokens_at field.EventId (count number)) ++ (tokens_at field.Features (list_data feature_data state.features)
    ++ (tokens_at field.Segments (list_data segment_data state.segments) ++ (tokens_at field.Kind (string (codes "hydration")) ++ end_object ∷ [])))
unfolding event_data
hydration_tokens number state = refl

pub feature_updated_tokens : (number : ℕ) (feature : Feature)
    → tokens_of (event_data (FeatureUpdated number feature)) ≡ framed number (tokens_at field.Feature (feature_data feature)) (codes "feature-updated")
unfolding event_data
feature_updated_tokens number feature = refl

pub feature_removed_tokens : (number : ℕ) (name project : List ℕ)
    → tokens_of (event_data (FeatureRemoved number name project))
    ≡ (begin_object ∷ tokens_at field.EventId (count number)) ++ (tokens_at field.FeatureName (string name)
    ++ (tokens_at field.Project (string project) ++ (tokens_at field.Kind (string (codes "feature-removed")) ++ end_object ∷ [])))
unfolding event_data
feature_removed_tokens number name project = refl

pub segment_updated_tokens : (number : ℕ) (segment : Segment)
    → tokens_of (event_data (SegmentUpdated number segment)) ≡ framed number (tokens_at field.Segment (segment_data segment)) (codes "segment-updated")
unfolding event_data
segment_updated_tokens number segment = refl

pub segment_removed_tokens : (number id : ℕ)
    → tokens_of (event_data (SegmentRemoved number id)) ≡ framed number (tokens_at field.SegmentId (count id)) (codes "segment-removed")
unfolding event_data
segment_removed_tokens number id = refl

batch_keys : (epoch after : Option ℕ) (events : List Event)
    → tokens_of (batch_with epoch after events)
    ≡ begin_object ∷ (tokens_at_some field.After (option_map count after) ++ (tokens_at_some field.Epoch (option_map count epoch)
    ++ (tokens_at field.Events (list_data event_data events) ++ end_object ∷ [])))
unfolding batch_with
batch_keys None None events = refl
batch_keys None (Some n) events = refl
batch_keys (Some n) None events = refl
batch_keys (Some n) (Some m) events = refl

pub batch_tokens : (batch : Batch)
    → tokens_of (batch_data batch)
    ≡ begin_object ∷ (tokens_at_some field.After (option_map count batch.after) ++ (tokens_at_some field.Epoch (option_map count (unless_zero batch.epoch))
    ++ (tokens_at field.Events (list_data event_data batch.events) ++ end_object ∷ [])))
unfolding batch_data
batch_tokens batch = batch_keys (unless_zero batch.epoch) batch.after batch.events
