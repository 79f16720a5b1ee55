-- Reading the JSON value that was written for a valid batch returns the same batch, if its states are within the limits of reading. If it
-- has no `after`, it gets `held`, the number that the requester sent, if any.
use Rattle.std.proofs.Common.{◌≡◌, ℕ, ◌+◌, ◌≤◌, Bool, true, false, ltb, List, [], ◌∷◌, map, Option, Some, None, Ok, refl, ◌∙◌, ◌&&◌, not}
use Rattle.std.specs.Prelude.{codes, drop, option_map}
use Rattle.std.specs.List.{AllByRecursion as Every}
use Rattle.std.specs.Option.{option_or}
use Rattle.std.proofs.lemmas.Bool.{le-ltb}
use Rattle.serde_json.specs.Data.{Data, null, boolean, number, string, array, object}
use Rattle.serde_json.specs.View.{items_of}
use Rattle.unl_documents.specs.declared.field.Field.{Field}
use Rattle.unl_documents.specs.declared.field.Field.TheVariants as field
use Rattle.unl_documents.specs.Kinds.{at, present, any_text, any_whole, name, object_of, required, optional, is_object}
use Rattle.unl_documents.specs.Reading.{Reading}
use Rattle.unl_documents.specs.Writing.{count, unless_zero}
use Rattle.unl_documents.specs.Writing.{list_data}
use Rattle.unl_documents.proofs.FeedTrip.{state_back, zero_back}
use Rattle.unl_documents.proofs.RoundTrip.{name_back, any_text_back, any_whole_back, required_back, defaulted_back, optional_back, optional_none, ComesBack, features, segments}
use Rattle.unl_delta.specs.declared.batch.Batch.{Batch}
use Rattle.unl_delta.specs.declared.event.Event.{Event}
use Rattle.unl_delta.specs.declared.event.Event.TheVariants.{Hydration, FeatureUpdated, FeatureRemoved, SegmentUpdated, SegmentRemoved}
use Rattle.unl_delta.specs.Reading.{hydration_of, feature_updated_of, feature_removed_of, segment_updated_of, segment_removed_of, event_of_type, event_of, event_at, in_order as placed, events_from, batch_of}
use Rattle.unl_delta.specs.State.{number_of, is_change}
use Rattle.unl_delta.specs.Valid.{NeverFall, IsReadable, IsValidEvent, IsValidBatch}
use Rattle.unl_delta.specs.Writing.{event_data, batch_with, batch_data}

-- ---- an event

present_one : (d : Data) → is_object d ≡ true → present d ≡ Some d
present_one null is = absurd cc
present_one (boolean b) is = absurd cc
present_one (number n) is = absurd cc
present_one (string bytes) is = absurd cc
present_one (array values) is = absurd cc
present_one (object inside) is = refl

-- an object that is written at a required key is read back
pub one_back : {T : Type 0} {reads : Data → Reading T} {written : T → Data} {P : T → Type 0} → ComesBack reads written P → (f : Field) (value : Data) (x : T) → P x → at f value ≡ present (written x) → required (object_of reads) f value ≡ Ok x
unfolding object_of
one_back {T} {reads} {written} comes f value x valid here =
    let there : at f value ≡ Some (written x) = here ∙ present_one (written x) (comes.is_one x) in
    required_back (object_of reads) f value (written x) x there (rw (comes.is_one x) (comes.back x valid))

word_back : (value : Data) (word : List ℕ) → at field.Kind value ≡ Some (string word) → event_of value ≡ event_of_type word value
unfolding event_of
word_back value word here = rw (required_back any_text field.Kind value (string word) word here (any_text_back field.Kind word)) refl

number_back : (value : Data) (f : Field) (n : ℕ) → at f value ≡ Some (count n) → required any_whole f value ≡ Ok n
number_back value f n here = required_back any_whole f value (count n) n here (any_whole_back f n)

pub event_back : (e : Event) → IsValidEvent e → IsReadable e → event_of (event_data e) ≡ Ok e
unfolding event_of_type hydration_of feature_updated_of feature_removed_of segment_updated_of segment_removed_of event_data at
event_back (Hydration n s) valid readable =
    let value = event_data (Hydration n s) in
    let word = word_back value (codes "hydration") refl in
    let number = number_back value field.EventId n refl in
    let state = state_back value s valid readable.0 readable.1 refl refl in
    rw (word, number, state) refl
event_back (FeatureUpdated n feature) valid readable =
    let value = event_data (FeatureUpdated n feature) in
    let word = word_back value (codes "feature-updated") refl in
    let number = number_back value field.EventId n refl in
    let whole = one_back features field.Feature value feature valid refl in
    rw (word, number, whole) refl
event_back (FeatureRemoved n named project) valid readable =
    let value = event_data (FeatureRemoved n named project) in
    let word = word_back value (codes "feature-removed") refl in
    let number = number_back value field.EventId n refl in
    let feature = required_back name field.FeatureName value (string named) named refl (name_back field.FeatureName named valid.0) in
    let old = defaulted_back (codes "default") name field.Project value (string project) project refl (name_back field.Project project valid.1) in
    rw (word, number, feature, old) refl
event_back (SegmentUpdated n segment) valid readable =
    let value = event_data (SegmentUpdated n segment) in
    let word = word_back value (codes "segment-updated") refl in
    let number = number_back value field.EventId n refl in
    let whole = one_back segments field.Segment value segment valid refl in
    rw (word, number, whole) refl
event_back (SegmentRemoved n id) valid readable =
    let value = event_data (SegmentRemoved n id) in
    let word = word_back value (codes "segment-removed") refl in
    let number = number_back value field.EventId n refl in
    let old = number_back value field.SegmentId id refl in
    rw (word, number, old) refl

-- ---- a batch

no_and : (b : Bool) → (b && false) ≡ false
no_and true = refl
no_and false = refl

placed_back : (place before : ℕ) (e : Event) → (ltb 0 place && not (is_change e)) ≡ false → before ≤ number_of e → placed place before e ≡ Ok e
unfolding placed
placed_back place before e fits rises = rw (fits, le-ltb (number_of e) before rises) refl

at_back : (place before : ℕ) (e : Event) → IsValidEvent e → IsReadable e → (ltb 0 place && not (is_change e)) ≡ false → before ≤ number_of e → event_at place before (event_data e) ≡ Ok e
unfolding event_at
at_back place before e valid readable fits rises = rw (event_back e valid readable, placed_back place before e fits rises) refl

changes_back : (place before : ℕ) (es : List Event) → Every (λ e. is_change e ≡ true) es → NeverFall number_of before es → Every IsValidEvent es → Every IsReadable es → events_from (place + 1) before (items_of (map event_data es)) ≡ Ok es
unfolding events_from
changes_back place before [] changes numbers valid readable = refl
changes_back place before (e ∷ es) changes numbers valid readable =
    let fits : (ltb 0 (place + 1) && not (is_change e)) ≡ false = rw changes.0 (no_and (ltb 0 (place + 1))) in
    rw (at_back (place + 1) before e valid.0 readable.0 fits numbers.0, changes_back (place + 1) (number_of e) es changes.1 numbers.1 valid.1 readable.1) refl

events_back : (es : List Event) → Every (λ e. is_change e ≡ true) (drop 1 es) → NeverFall number_of 0 es → Every IsValidEvent es → Every IsReadable es → events_from 0 0 (items_of (map event_data es)) ≡ Ok es
unfolding events_from
events_back [] changes numbers valid readable = refl
events_back (e ∷ es) changes numbers valid readable = rw (at_back 0 0 e valid.0 readable.0 refl numbers.0, changes_back 0 (number_of e) es changes numbers.1 valid.1 readable.1) refl

-- the members of a written batch, where the epoch and `after` are optional
record HasMembers (value : Data) (stated since : Option ℕ) (es : List Event) : Type 0 where
  pub epoch : at field.Epoch value ≡ option_map count stated
  pub after : at field.After value ≡ option_map count since
  pub events : at field.Events value ≡ Some (list_data event_data es)

has_members : (epoch after : Option ℕ) (es : List Event) → HasMembers (batch_with epoch after es) epoch after es
unfolding batch_with at
has_members None None es = record { epoch = refl; after = refl; events = refl }
has_members None (Some a) es = record { epoch = refl; after = refl; events = refl }
has_members (Some g) None es = record { epoch = refl; after = refl; events = refl }
has_members (Some g) (Some a) es = record { epoch = refl; after = refl; events = refl }

after_back : (value : Data) (after : Option ℕ) → at field.After value ≡ option_map count after → optional any_whole field.After value ≡ Ok after
after_back value None here = optional_none any_whole field.After value here
after_back value (Some a) here = optional_back any_whole field.After value (count a) a here (any_whole_back field.After a)

parts_back : (held : Option ℕ) (value : Data) (batch : Batch) → HasMembers value (unless_zero batch.epoch) batch.after batch.events → events_from 0 0 (items_of (map event_data batch.events)) ≡ Ok batch.events
    → batch_of held value ≡ Ok (record { epoch = batch.epoch; after = option_or batch.after held; events = batch.events })
unfolding batch_of
parts_back held value batch represents back = rw (represents.events, zero_back field.Epoch value batch.epoch represents.epoch, after_back value batch.after represents.after, back) refl

pub batch_back : (held : Option ℕ) (batch : Batch) → IsValidBatch batch → Every IsReadable batch.events → batch_of held (batch_data batch) ≡ Ok (record { epoch = batch.epoch; after = option_or batch.after held; events = batch.events })
unfolding batch_data
batch_back held batch valid readable =
    parts_back held (batch_with (unless_zero batch.epoch) batch.after batch.events) batch (has_members (unless_zero batch.epoch) batch.after batch.events) (events_back batch.events valid.order.changes valid.order.numbers valid.events readable)
