-- Valid events and views keep states valid, valid batches keep versions valid, and the answers of valid versions are valid.
use Rattle.std.proofs.Common.{arith, ◌≡◌, ℕ, Bool, true, false, cond, ltb, List, [], ◌∷◌, ◌++◌, map, Option, Some, None, refl, ◌==◌, ◌||◌}
use Rattle.std.specs.Prelude.{All, filter, IfSome, option_map, unwrap_or}
use Rattle.std.specs.List.{AllByRecursion as Every, cons_option}
use Rattle.std.specs.List.Sorted.{IsStrictlySortedBy}
use Rattle.std.specs.Str.{bytes_eq}
use Rattle.std.specs.declared.cmp.Ordering.TheVariants.{Less}
use Rattle.std.proofs.lemmas.List.Elements.{All-nil, All-filter, All-append, All-cons, All-head, All-tail}
use Rattle.unl_documents.specs.declared.feature.Feature.{Feature}
use Rattle.unl_documents.specs.declared.state.State.{State}
use Rattle.unl_documents.specs.Limits.{IsName}
use Rattle.unl_documents.specs.Parameters.{AreRising}
use Rattle.unl_documents.specs.States.{IsValidState, name_key, id_key}
use Rattle.unl_documents.specs.Valid.{IsValidFeature, IsValidSegment}
use Rattle.unl_delta.specs.declared.batch.Batch.{Batch}
use Rattle.unl_delta.specs.declared.batch.DeltaAnswer.{DeltaAnswer}
use Rattle.unl_delta.specs.declared.batch.DeltaAnswer.TheVariants.{Same, Batch as Sent}
use Rattle.unl_delta.specs.declared.batch.Verdict.TheVariants.{Apply}
use Rattle.unl_delta.specs.declared.event.Entry.{Entry}
use Rattle.unl_delta.specs.declared.event.Event.{Event}
use Rattle.unl_delta.specs.declared.event.Event.TheVariants.{Hydration, FeatureUpdated, FeatureRemoved, SegmentUpdated, SegmentRemoved}
use Rattle.unl_delta.specs.declared.version.EnvVersion.{EnvVersion}
use Rattle.unl_delta.specs.declared.version.Place.{Place}
use Rattle.unl_delta.specs.Batch.{empty_at, empty_version, verdict_of, last_number, cut, windowed, from_hydration, go_on, next_on, next_version, hydrated, news, delta_answer}
use Rattle.unl_delta.specs.Keyed.{below, above, put, without}
use Rattle.unl_delta.specs.State.{number_of, entry_number, later, step, fold_events, project_of, was_in, entries_on}
use Rattle.unl_delta.specs.Valid.{IsVersion, IsValidEvent, IsValidEntry, IsValidBatch, IsValidVersion, IsValidPlace, IsValidAnswer}
use Rattle.unl_delta.specs.View.{Sees, view_of, removed, shown, visible_events}
use Rattle.unl_delta.proofs.Every.{every_append}
use Rattle.unl_delta.proofs.Formed.{next_is_version, answer_is_batch}
use Rattle.unl_delta.proofs.Numbers.{each_later}
use Rattle.unl_delta.proofs.Order.{cmp, Rises, rises_from_rising, rises_filter, rises_put, rises_without}

-- ---- lists in the order of their keys

each_of_keys : {T : Type 0} (key : T → List ℕ) (k : List ℕ) (xs : List T) → Every (λ x. cmp k (key x) ≡ Less) xs → Every (λ other. cmp k other ≡ Less) (map key xs)
each_of_keys key k [] h = tt
each_of_keys key k (x ∷ xs) h = (h.0, each_of_keys key k xs h.1)

rising_from_rises : {T : Type 0} (key : T → List ℕ) (xs : List T) → Rises key xs → AreRising (map key xs)
unfolding Rises IsStrictlySortedBy
rising_from_rises key [] h = tt
rising_from_rises key (x ∷ xs) h = (each_of_keys key (key x) xs h.0, rising_from_rises key xs h.1)

rising_filter : {T : Type 0} (key : T → List ℕ) (p : T → Bool) (xs : List T) → AreRising (map key xs) → AreRising (map key (filter p xs))
rising_filter key p xs h = rising_from_rises key (filter p xs) (rises_filter key p xs (rises_from_rising key xs h))

rising_put : {T : Type 0} (key : T → List ℕ) (x : T) (xs : List T) → AreRising (map key xs) → AreRising (map key (put key x xs))
rising_put key x xs h = rising_from_rises key (put key x xs) (rises_put key x xs (rises_from_rising key xs h))

rising_without : {T : Type 0} (key : T → List ℕ) (k : List ℕ) (xs : List T) → AreRising (map key xs) → AreRising (map key (without key k xs))
rising_without key k xs h = rising_from_rises key (without key k xs) (rises_without key k xs (rises_from_rising key xs h))

each_below : {T : Type 0} (P : T → Type 0) (key : T → List ℕ) (k : List ℕ) (xs : List T) → All P xs → All P (below key k xs)
unfolding below
each_below P key k xs h = All-filter _ P xs h

each_above : {T : Type 0} (P : T → Type 0) (key : T → List ℕ) (k : List ℕ) (xs : List T) → All P xs → All P (above key k xs)
unfolding above
each_above P key k xs h = All-filter _ P xs h

each_put : {T : Type 0} (P : T → Type 0) (key : T → List ℕ) (x : T) (xs : List T) → P x → All P xs → All P (put key x xs)
each_put P key x xs new h = All-append P (below key (key x) xs) (x ∷ above key (key x) xs) (each_below P key (key x) xs h) (All-cons P x (above key (key x) xs) new (each_above P key (key x) xs h))

each_without : {T : Type 0} (P : T → Type 0) (key : T → List ℕ) (k : List ℕ) (xs : List T) → All P xs → All P (without key k xs)
each_without P key k xs h = All-append P (below key k xs) (above key k xs) (each_below P key k xs h) (each_above P key k xs h)

-- ---- states

pub view_is_valid : (sees : Sees) (s : State) → IsValidState s → IsValidState (view_of sees s)
view_is_valid sees s h = record {
  features = All-filter (λ (f : Feature). sees f.project) IsValidFeature s.features h.features;
  names = rising_filter name_key (λ (f : Feature). sees f.project) s.features h.names;
  segments = h.segments;
  ids = h.ids;
}

step_is_valid : (e : Event) (s : State) → IsValidEvent e → IsValidState s → IsValidState (step e s)
step_is_valid (Hydration n state) s new h = new
step_is_valid (FeatureUpdated n feature) s new h = record {
  features = each_put IsValidFeature name_key feature s.features new h.features;
  names = rising_put name_key feature s.features h.names;
  segments = h.segments;
  ids = h.ids;
}
step_is_valid (FeatureRemoved n name project) s new h = record {
  features = each_without IsValidFeature name_key name s.features h.features;
  names = rising_without name_key name s.features h.names;
  segments = h.segments;
  ids = h.ids;
}
step_is_valid (SegmentUpdated n segment) s new h = record {
  features = h.features;
  names = h.names;
  segments = each_put IsValidSegment id_key segment s.segments new h.segments;
  ids = rising_put id_key segment s.segments h.ids;
}
step_is_valid (SegmentRemoved n id) s new h = record {
  features = h.features;
  names = h.names;
  segments = each_without IsValidSegment id_key (id ∷ []) s.segments h.segments;
  ids = rising_without id_key (id ∷ []) s.segments h.ids;
}

fold_is_valid : (es : List Event) (s : State) → Every IsValidEvent es → IsValidState s → IsValidState (fold_events es s)
fold_is_valid [] s new h = h
fold_is_valid (e ∷ es) s new h = fold_is_valid es (step e s) new.1 (step_is_valid e s new.0 h)

-- ---- entries

project_is_name : (name : List ℕ) (fs : List Feature) → All IsValidFeature fs → IfSome (project_of name fs) IsName
project_is_name name [] h = tt
project_is_name name (f ∷ fs) h =
    elim (bytes_eq f.name name) as (λ t. IfSome (cond t (Some f.project) (project_of name fs)) IsName) [
      | true ↦ (All-head IsValidFeature f fs h).project
      | false ↦ project_is_name name fs (All-tail IsValidFeature f fs h)
    ]

was_is_name : (e : Event) (s : State) → IsValidState s → IfSome (was_in s e) IsName
was_is_name (Hydration n state) s h = tt
was_is_name (FeatureUpdated n feature) s h = project_is_name feature.name s.features h.features
was_is_name (FeatureRemoved n name project) s h = project_is_name name s.features h.features
was_is_name (SegmentUpdated n segment) s h = tt
was_is_name (SegmentRemoved n id) s h = tt

entries_are_valid : (es : List Event) (s : State) → Every IsValidEvent es → IsValidState s → Every IsValidEntry (entries_on s es)
entries_are_valid [] s new h = tt
entries_are_valid (e ∷ es) s new h = ((new.0, was_is_name e s h), entries_are_valid es (step e s) new.1 (step_is_valid e s new.0 h))

-- ---- versions

-- the contents of a version are valid
record Holds (v : EnvVersion) : Type 0 where
  pub state : IsValidState v.state
  pub entries : Every IsValidEntry v.entries

windowed_holds : (g : ℕ) (state : State) (n base : ℕ) (entries : List Entry) → IsValidState state → Every IsValidEntry entries → Holds (windowed g state n base entries)
windowed_holds g state n base entries h each = record { state = h; entries = each_later entry_number IsValidEntry (cut base entries) entries each }

hydrated_holds : (g n : ℕ) (state : State) (es : List Event) → IsValidState state → Every IsValidEvent es → Holds (from_hydration g n state es)
hydrated_holds g n state es h new = windowed_holds g (fold_events es state) (last_number n es) n (later entry_number n (entries_on state es)) (fold_is_valid es state new h) (each_later entry_number IsValidEntry n (entries_on state es) (entries_are_valid es state new h))

changed_holds : (v : EnvVersion) (es : List Event) → Holds v → Every IsValidEvent es → Holds (go_on v es)
changed_holds v es h new =
    let fresh : List Event = later number_of v.number es in
    let valid : Every IsValidEvent fresh = each_later number_of IsValidEvent v.number es new in
    windowed_holds v.epoch (fold_events fresh v.state) (last_number v.number es) v.base (v.entries ++ entries_on v.state fresh) (fold_is_valid fresh v.state valid h.state) (every_append IsValidEntry v.entries (entries_on v.state fresh) h.entries (entries_are_valid fresh v.state valid h.state))

next_holds : (g : ℕ) (v : EnvVersion) (es : List Event) → Holds v → Every IsValidEvent es → Holds (next_on g v es)
next_holds g v [] h new = h
next_holds g v (Hydration n state ∷ es) h new = hydrated_holds g n state es new.0 new.1
next_holds g v (FeatureUpdated n feature ∷ es) h new = changed_holds v (FeatureUpdated n feature ∷ es) h new
next_holds g v (FeatureRemoved n name project ∷ es) h new = changed_holds v (FeatureRemoved n name project ∷ es) h new
next_holds g v (SegmentUpdated n segment ∷ es) h new = changed_holds v (SegmentUpdated n segment ∷ es) h new
next_holds g v (SegmentRemoved n id ∷ es) h new = changed_holds v (SegmentRemoved n id ∷ es) h new

pub empty_is_valid : (g : ℕ) → IsValidVersion (empty_at g)
unfolding IsStrictlySortedBy
empty_is_valid g = record {
  order = record { base = omega arith; changes = tt; numbers = tt; most = tt };
  state = record { features = All-nil IsValidFeature; names = tt; segments = All-nil IsValidSegment; ids = tt };
  entries = tt;
}

start_holds : (o : Option EnvVersion) → IfSome o IsValidVersion → Holds (unwrap_or o empty_version)
start_holds None h = let start = empty_is_valid 0 in record { state = start.state; entries = tt }
start_holds (Some v) h = record { state = h.state; entries = h.entries }

start_in_order : (o : Option EnvVersion) → IfSome o IsValidVersion → IfSome o IsVersion
start_in_order None h = tt
start_in_order (Some v) h = h.order

pub next_is_valid : (place : Place) (batch : Batch) → IsValidPlace place → IsValidBatch batch → verdict_of place batch ≡ Apply → IsValidVersion (next_version place batch)
next_is_valid place batch h b is =
    let holds : Holds (next_version place batch) = next_holds batch.epoch (unwrap_or place.version empty_version) batch.events (start_holds place.version h) b.events in
    record { order = next_is_version place batch (start_in_order place.version h) b.order is; state = holds.state; entries = holds.entries }

-- ---- answers

removed_is_valid : (sees : Sees) (n : ℕ) (name : List ℕ) (was : Option (List ℕ)) → IsName name → IfSome was IsName → IfSome (removed sees n name was) IsValidEvent
removed_is_valid sees n name None named h = tt
removed_is_valid sees n name (Some project) named h = decided (sees project)
  where
    decided : (t : Bool) → IfSome (option_map (λ (p : List ℕ). FeatureRemoved n name p) (cond t (Some project) None)) IsValidEvent
    decided true = (named, h)
    decided false = tt

shown_is_valid : (sees : Sees) (e : Event) (was : Option (List ℕ)) → IsValidEvent e → IfSome was IsName → IfSome (shown sees e was) IsValidEvent
shown_is_valid sees (Hydration n state) was h named = view_is_valid sees state h
shown_is_valid sees (FeatureUpdated n feature) was h named =
    elim (sees feature.project) as (λ t. IfSome (cond t (Some (FeatureUpdated n feature)) (removed sees n feature.name was)) IsValidEvent) [ true ↦ h | false ↦ removed_is_valid sees n feature.name was h.name named ]
shown_is_valid sees (FeatureRemoved n name project) was h named = removed_is_valid sees n name was h.0 named
shown_is_valid sees (SegmentUpdated n segment) was h named = h
shown_is_valid sees (SegmentRemoved n id) was h named = tt

first_is_valid : (o : Option Event) (es : List Event) → IfSome o IsValidEvent → Every IsValidEvent es → Every IsValidEvent (cons_option o es)
first_is_valid None es h more = more
first_is_valid (Some e) es h more = (h, more)

shown_are_valid : (sees : Sees) (entries : List Entry) → Every IsValidEntry entries → Every IsValidEvent (visible_events sees entries)
shown_are_valid sees [] h = tt
shown_are_valid sees (entry ∷ entries) h = first_is_valid (shown sees entry.event entry.was) (visible_events sees entries) (shown_is_valid sees entry.event entry.was h.0.0 h.0.1) (shown_are_valid sees entries h.1)

-- the contents of an answer are valid
AnswerHolds : DeltaAnswer → Type 0
AnswerHolds Same = Unit {0}
AnswerHolds (Sent batch) = Every IsValidEvent batch.events

news_hold : (g since : ℕ) (es : List Event) → Every IsValidEvent es → AnswerHolds (news g since es)
unfolding AnswerHolds
news_hold g since [] h = tt
news_hold g since (e ∷ es) h = h

answer_holds : (v : EnvVersion) (since : Option ℕ) (projects : Sees) → IsValidVersion v → AnswerHolds (delta_answer v since projects)
unfolding AnswerHolds
answer_holds v None projects h = (view_is_valid projects v.state h.state, tt)
answer_holds v (Some since) projects h = decided (since == v.number) (ltb since v.base || ltb v.number since)
  where
    decided : (s t : Bool) → AnswerHolds (cond s Same (cond t (hydrated v projects) (news v.epoch since (visible_events projects (later entry_number since v.entries)))))
    decided true t = tt
    decided false true = (view_is_valid projects v.state h.state, tt)
    decided false false = news_hold v.epoch since _ (shown_are_valid projects (later entry_number since v.entries) (each_later entry_number IsValidEntry since v.entries h.entries))

pub answer_is_valid : (v : EnvVersion) (since : Option ℕ) (projects : Sees) → IsValidVersion v → IsValidAnswer (delta_answer v since projects)
unfolding AnswerHolds
answer_is_valid v since projects h = decided (delta_answer v since projects) refl (answer_holds v since projects h)
  where
    decided : (a : DeltaAnswer) → delta_answer v since projects ≡ a → AnswerHolds a → IsValidAnswer a
    decided Same is holds = tt
    decided (Sent batch) is holds = record { order = answer_is_batch v since projects batch h.order is; events = holds }
