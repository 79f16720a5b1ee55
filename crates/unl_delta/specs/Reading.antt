-- How events and batches are read from JSON: which keys, in which order, and what kind of value each must have. The JSON form of events and
-- batches is chosen by this project.
use Rattle.std.specs.Prelude.{ℕ, ◌+◌, List, [], ◌∷◌, codes, length, ◌&&◌, not, nat_lt, Option, option_and_then, option_map, Result, Ok}
use Rattle.std.specs.Prelude.{Err, ok_or, if◌then◌else◌, None}
use Rattle.std.specs.Option.{option_or}
use Rattle.std.specs.Str.{bytes_eq}
use Rattle.serde_json.specs.Data.{Data, Items, no_items, item}
use Rattle.serde_json.specs.Find.{as_array}
use Rattle.unl_documents.specs.declared.fault.BadDocument.TheVariants.{WrongKind}
use Rattle.unl_documents.specs.declared.feed.Feed.{Feed}
use Rattle.unl_documents.specs.declared.field.Field.TheVariants as field
use Rattle.unl_documents.specs.Documents.{feature_of, segment_of}
use Rattle.unl_documents.specs.Kinds.{at, name, any_text, any_whole, object_of, required, defaulted, optional}
use Rattle.unl_documents.specs.Reading.{Reading}
use Rattle.unl_documents.specs.Results.{json_of, ◌>>=◌}
use Rattle.unl_documents.specs.States.{state_of}
use Rattle.unl_delta.specs.declared.batch.Batch.{Batch}
use Rattle.unl_delta.specs.declared.event.Event.{Event}
use Rattle.unl_delta.specs.declared.event.Event.TheVariants.{Hydration, FeatureUpdated, FeatureRemoved, SegmentUpdated, SegmentRemoved}
use Rattle.unl_delta.specs.declared.fault.BadBatch.{BadBatch}
use Rattle.unl_delta.specs.declared.fault.BadBatch.TheVariants.{NotJson, BadEvent, HydrationNotFirst, NotRising}
use Rattle.unl_delta.specs.State.{number_of, is_change}

-- ---- events

-- reads a hydration: its number, and the state from the keys `features` and `segments`
unfoldable pub hydration_of : Data → Reading Event
hydration_of value = do
  number ← required any_whole field.EventId value
  state ← state_of value
  Ok (Hydration number state)

-- reads an event: a feature was added or changed
unfoldable pub feature_updated_of : Data → Reading Event
feature_updated_of value = do
  number ← required any_whole field.EventId value
  feature ← required (object_of feature_of) field.Feature value
  Ok (FeatureUpdated number feature)

-- reads an event: a feature was removed from a project, which is `default` if the key is absent or null
unfoldable pub feature_removed_of : Data → Reading Event
feature_removed_of value = do
  number ← required any_whole field.EventId value
  named ← required name field.FeatureName value
  project ← defaulted (codes "default") name field.Project value
  Ok (FeatureRemoved number named project)

-- reads an event: a segment was added or changed
unfoldable pub segment_updated_of : Data → Reading Event
segment_updated_of value = do
  number ← required any_whole field.EventId value
  segment ← required (object_of segment_of) field.Segment value
  Ok (SegmentUpdated number segment)

-- reads an event: a segment was removed
unfoldable pub segment_removed_of : Data → Reading Event
segment_removed_of value = do
  number ← required any_whole field.EventId value
  id ← required any_whole field.SegmentId value
  Ok (SegmentRemoved number id)

-- reads an event whose type is `word`; an unknown type is a fault
unfoldable pub event_of_type : List ℕ → Data → Reading Event
event_of_type word value =
    if bytes_eq word (codes "hydration") then hydration_of value else (
    if bytes_eq word (codes "feature-updated") then feature_updated_of value else (
    if bytes_eq word (codes "feature-removed") then feature_removed_of value else (
    if bytes_eq word (codes "segment-updated") then segment_updated_of value else (
    if bytes_eq word (codes "segment-removed") then segment_removed_of value else (
    Err (WrongKind field.Kind))))))

-- reads an event: first its type, then the keys of that type; or returns its first fault
unfoldable pub event_of : Data → Reading Event
event_of value = do
  word ← required any_text field.Kind value
  event_of_type word value

-- ---- batches

-- the result of reading a batch: the batch, or its first fault
abbrev pub BatchReading : Type 0
BatchReading = Result Batch BadBatch

-- any fault inside an event becomes `BadEvent` with the event's index `place`
abbrev pub at_place : ℕ → Reading Event → Result Event BadBatch
at_place place (Ok event) = Ok event
at_place place (Err e) = Err (BadEvent place)

-- checks the event at index `place`: it is a hydration only if it is the first event, and its number is at least `before`, the number of
-- the event before it
unfoldable pub in_order : ℕ → ℕ → Event → Result Event BadBatch
in_order place before event =
    if nat_lt 0 place && not (is_change event) then Err (HydrationNotFirst place)
    else (if nat_lt (number_of event) before then Err (NotRising place) else Ok event)

-- reads and checks the event at index `place`; `before` is the number of the event before it, or 0 if there is none
unfoldable pub event_at : ℕ → ℕ → Data → Result Event BadBatch
event_at place before value = do
  event ← at_place place (event_of value)
  in_order place before event

-- reads the events from index `place` on, or returns the first fault; `before` is the number of the event before them, or 0 if
-- there is none
unfoldable pub events_from : ℕ → ℕ → Items → Result (List Event) BadBatch
events_from place before no_items = Ok []
events_from place before (item value values) = do
  event ← event_at place before value
  others ← events_from (place + 1) (number_of event) values
  Ok (event ∷ others)

-- any fault in the keys `epoch` and `after` of a batch becomes `NotJson`
abbrev pub or_not_json : {T : Type 0} → Reading T → Result T BadBatch
or_not_json (Ok x) = Ok x
or_not_json (Err e) = Err NotJson

-- reads a batch from a JSON value; if the key `after` is absent or null, the batch gets `held`, the number that the requester sent, and if
-- the key `epoch` is absent or null, the epoch is 0
unfoldable pub batch_of : Option ℕ → Data → BatchReading
batch_of held value = do
  items ← ok_or (option_and_then as_array (at field.Events value)) NotJson
  epoch ← or_not_json (defaulted 0 any_whole field.Epoch value)
  after ← or_not_json (optional any_whole field.After value)
  events ← events_from 0 0 items
  Ok (record { epoch = epoch; after = option_or after held; events = events })

-- the maximum length of a batch in JSON, in bytes (chosen by this project)
abbrev pub longest_batch : ℕ
longest_batch = 16777216

-- reads a batch from bytes of JSON; `NotJson` if there are more than `longest_batch` bytes, or if they are not JSON
unfoldable pub batch_of_bytes : Option ℕ → List ℕ → BatchReading
batch_of_bytes held bytes = if nat_lt longest_batch (length bytes) then Err NotJson else (ok_or (json_of bytes) NotJson >>= batch_of held)

-- the batch of a feed with a number: one hydration; `None` for a feed without a number
abbrev pub batch_of_feed : Feed → Option Batch
batch_of_feed feed =
    option_map (λ number. record { epoch = feed.epoch; after = None; events = Hydration number feed.state ∷ [] }) feed.number
