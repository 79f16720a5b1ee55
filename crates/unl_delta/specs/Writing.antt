-- How events and batches are written as JSON values. `with` inserts a member in the byte order of the keys.
-- `field.Kind` is the key `type`.
use Rattle.std.specs.Prelude.{ℕ, List, Option, codes, option_map}
use Rattle.serde_json.specs.Data.{Data, string, object, no_members}
use Rattle.unl_documents.specs.declared.field.Field.TheVariants as field
use Rattle.unl_documents.specs.Writing.{with, with_some, count, unless_zero, list_data, feature_data, segment_data}
use Rattle.unl_delta.specs.declared.batch.Batch.{Batch}
use Rattle.unl_delta.specs.declared.event.Event.{Event}
use Rattle.unl_delta.specs.declared.event.Event.TheVariants.{Hydration, FeatureUpdated, FeatureRemoved, SegmentUpdated, SegmentRemoved}

-- the JSON value of an event: its number, its type, and the keys of that type
unfoldable pub event_data : Event → Data
event_data (Hydration number state) = object (
    with field.Kind (string (codes "hydration")) (
    with field.EventId (count number) (
    with field.Features (list_data feature_data state.features) (
    with field.Segments (list_data segment_data state.segments)
    no_members))))
event_data (FeatureUpdated number feature) = object (
    with field.Kind (string (codes "feature-updated")) (
    with field.EventId (count number) (
    with field.Feature (feature_data feature)
    no_members)))
event_data (FeatureRemoved number name project) = object (
    with field.Kind (string (codes "feature-removed")) (
    with field.EventId (count number) (
    with field.FeatureName (string name) (
    with field.Project (string project)
    no_members))))
event_data (SegmentUpdated number segment) = object (
    with field.Kind (string (codes "segment-updated")) (
    with field.EventId (count number) (
    with field.Segment (segment_data segment)
    no_members)))
event_data (SegmentRemoved number id) = object (
    with field.Kind (string (codes "segment-removed")) (
    with field.EventId (count number) (
    with field.SegmentId (count id)
    no_members)))

-- the JSON value of a batch with this epoch, this `after` and these events; `epoch` and `after` are left out if they are `None`
unfoldable pub batch_with : Option ℕ → Option ℕ → List Event → Data
batch_with epoch after events = object (
    with_some field.Epoch (option_map count epoch) (
    with_some field.After (option_map count after) (
    with field.Events (list_data event_data events)
    no_members)))

-- the JSON value of a batch: its events, its epoch unless it is 0, and `after` if the batch has one
unfoldable pub batch_data : Batch → Data
batch_data batch = batch_with (unless_zero batch.epoch) batch.after batch.events
