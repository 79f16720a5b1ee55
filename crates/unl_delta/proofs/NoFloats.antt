-- The JSON values that are written for features, segments and batches contain no floating-point numbers.
use Rattle.std.proofs.Common.{◌≡◌, ◌||◌, ℕ, Bool, true, false, List, [], ◌∷◌, map, Option, Some, None, refl}
use Rattle.std.specs.Ordering.{nat_cmp, match_ordering}
use Rattle.std.specs.declared.cmp.Ordering.TheVariants.{Less, Equal, Greater}
use Rattle.std.specs.Cmp.Lexicographic.{slice_cmp}
use Rattle.serde_json.specs.Data.{Data, Members, no_members, member, string, put}
use Rattle.serde_json.specs.View.{items_of}
use Rattle.serde_json.specs.Written.{has_float, items_have_float, members_have_float}
use Rattle.unl_documents.specs.declared.constraint.Constraint.{Constraint}
use Rattle.unl_documents.specs.declared.dependency.Dependency.{Dependency}
use Rattle.unl_documents.specs.declared.feature.Feature.{Feature}
use Rattle.unl_documents.specs.declared.operator.Operator.{Operator}
use Rattle.unl_documents.specs.declared.parameters.Pair.{Pair}
use Rattle.unl_documents.specs.declared.segment.Segment.{Segment}
use Rattle.unl_documents.specs.declared.strategy.Strategy.{Strategy}
use Rattle.unl_documents.specs.declared.variant.Override.{Override}
use Rattle.unl_documents.specs.declared.variant.Payload.{Payload}
use Rattle.unl_documents.specs.declared.variant.Variant.{Variant}
use Rattle.unl_documents.specs.Writing.{count, unless_zero, with_pairs, override_data, payload_data, variant_data, dependency_data, constraint_data, segment_data, parameters_data, strategy_data, feature_data}
use Rattle.unl_delta.specs.declared.batch.Batch.{Batch}
use Rattle.unl_delta.specs.declared.event.Event.{Event}
use Rattle.unl_delta.specs.declared.event.Event.TheVariants.{Hydration, FeatureUpdated, FeatureRemoved, SegmentUpdated, SegmentRemoved}
use Rattle.unl_delta.specs.Writing.{event_data, batch_with, batch_data}

pub no_float_in : {T : Type 0} (written : T → Data) → ((x : T) → has_float (written x) ≡ false) → (xs : List T) → items_have_float (items_of (map written xs)) ≡ false
no_float_in written plain [] = refl
no_float_in written plain (x ∷ xs) = rw (plain x, no_float_in written plain xs) refl

texts : (xs : List (List ℕ)) → items_have_float (items_of (map string xs)) ≡ false
texts = no_float_in string (λ x. refl)

-- ---- parameters

no_float_put : (key text : List ℕ) (ms : Members) → members_have_float ms ≡ false → members_have_float (put key (string text) ms) ≡ false
no_float_put key text no_members h = refl
no_float_put key text (member other value ms) h = decided (no_float_put key text ms) (has_float value) (members_have_float ms) refl refl h
  where
    decided : (members_have_float ms ≡ false → members_have_float (put key (string text) ms) ≡ false) → (a b : Bool) → has_float value ≡ a → members_have_float ms ≡ b → (a || b) ≡ false
        → members_have_float (put key (string text) (member other value ms)) ≡ false
    decided again true b is more h = absurd cc
    decided again false true is more h = absurd cc
    decided again false false is more h =
        elim (slice_cmp nat_cmp key other) as (λ o. members_have_float (match_ordering o (member key (string text) (member other value ms)) (member other (string text) ms) (member other value (put key (string text) ms))) ≡ false) [
          | Less ↦ rw (is, more) refl
          | Equal ↦ more
          | Greater ↦ rw (is, again more) refl
        ]

no_float_pairs : (pairs : List Pair) (ms : Members) → members_have_float ms ≡ false → members_have_float (with_pairs pairs ms) ≡ false
no_float_pairs [] ms h = h
no_float_pairs (p ∷ pairs) ms h = no_float_pairs pairs (put p.key (string p.value) ms) (no_float_put p.key p.value ms h)

no_float_parameters : (pairs : List Pair) → has_float (parameters_data pairs) ≡ false
unfolding parameters_data
no_float_parameters pairs = no_float_pairs pairs no_members refl

-- ---- objects

no_float_override : (o : Override) → has_float (override_data o) ≡ false
unfolding override_data
no_float_override o = rw (texts o.values) refl

no_float_payload : (p : Payload) → has_float (payload_data p) ≡ false
unfolding payload_data
no_float_payload p = refl

no_float_variant_parts : (name : List ℕ) (weight : ℕ) (stickiness : Option (List ℕ)) (payload : Option Payload) (overrides : List Override)
    → has_float (variant_data (record { name = name; weight = weight; stickiness = stickiness; payload = payload; overrides = overrides })) ≡ false
unfolding variant_data
no_float_variant_parts name weight None None overrides = rw (no_float_in override_data no_float_override overrides) refl
no_float_variant_parts name weight None (Some p) overrides = rw (no_float_in override_data no_float_override overrides, no_float_payload p) refl
no_float_variant_parts name weight (Some s) None overrides = rw (no_float_in override_data no_float_override overrides) refl
no_float_variant_parts name weight (Some s) (Some p) overrides = rw (no_float_in override_data no_float_override overrides, no_float_payload p) refl

no_float_variant : (v : Variant) → has_float (variant_data v) ≡ false
no_float_variant v = no_float_variant_parts v.name v.weight v.stickiness v.payload v.overrides

no_float_dependency : (d : Dependency) → has_float (dependency_data d) ≡ false
unfolding dependency_data
no_float_dependency d = rw (texts d.variants) refl

no_float_constraint_parts : (field : List ℕ) (op : Operator) (values : List (List ℕ)) (value : Option (List ℕ)) (caseless inverted : Bool)
    → has_float (constraint_data (record { field = field; operator = op; values = values; value = value; caseless = caseless; inverted = inverted })) ≡ false
unfolding constraint_data
no_float_constraint_parts field op values None caseless inverted = rw (texts values) refl
no_float_constraint_parts field op values (Some v) caseless inverted = rw (texts values) refl

no_float_constraint : (c : Constraint) → has_float (constraint_data c) ≡ false
no_float_constraint c = no_float_constraint_parts c.field c.operator c.values c.value c.caseless c.inverted

pub no_float_segment : (s : Segment) → has_float (segment_data s) ≡ false
unfolding segment_data
no_float_segment s = rw (no_float_in constraint_data no_float_constraint s.constraints) refl

no_float_strategy : (s : Strategy) → has_float (strategy_data s) ≡ false
unfolding strategy_data
no_float_strategy s =
    let constraints = no_float_in constraint_data no_float_constraint s.constraints in
    let segments = no_float_in count (λ n. refl) s.segments in
    let variants = no_float_in variant_data no_float_variant s.variants in
    rw (constraints, no_float_parameters s.parameters, segments, variants) refl

no_float_feature_parts : (f : Feature) (description : Option (List ℕ))
    → has_float (feature_data (record { name = f.name; project = f.project; kind = f.kind; description = description; enabled = f.enabled; stale = f.stale; impression = f.impression; strategies = f.strategies; variants = f.variants; dependencies = f.dependencies })) ≡ false
unfolding feature_data
no_float_feature_parts f None =
    let dependencies = no_float_in dependency_data no_float_dependency f.dependencies in
    let strategies = no_float_in strategy_data no_float_strategy f.strategies in
    let variants = no_float_in variant_data no_float_variant f.variants in
    rw (dependencies, strategies, variants) refl
no_float_feature_parts f (Some d) =
    let dependencies = no_float_in dependency_data no_float_dependency f.dependencies in
    let strategies = no_float_in strategy_data no_float_strategy f.strategies in
    let variants = no_float_in variant_data no_float_variant f.variants in
    rw (dependencies, strategies, variants) refl

pub no_float_feature : (f : Feature) → has_float (feature_data f) ≡ false
no_float_feature f = no_float_feature_parts f f.description

-- ---- batches

no_float_event : (e : Event) → has_float (event_data e) ≡ false
unfolding event_data
no_float_event (Hydration n state) = rw (no_float_in feature_data no_float_feature state.features, no_float_in segment_data no_float_segment state.segments) refl
no_float_event (FeatureUpdated n feature) = rw (no_float_feature feature) refl
no_float_event (FeatureRemoved n name project) = refl
no_float_event (SegmentUpdated n segment) = rw (no_float_segment segment) refl
no_float_event (SegmentRemoved n id) = refl

no_float_batch_parts : (epoch after : Option ℕ) (es : List Event) → has_float (batch_with epoch after es) ≡ false
unfolding batch_with
no_float_batch_parts None None es = rw (no_float_in event_data no_float_event es) refl
no_float_batch_parts None (Some a) es = rw (no_float_in event_data no_float_event es) refl
no_float_batch_parts (Some g) None es = rw (no_float_in event_data no_float_event es) refl
no_float_batch_parts (Some g) (Some a) es = rw (no_float_in event_data no_float_event es) refl

pub no_float_batch : (batch : Batch) → has_float (batch_data batch) ≡ false
unfolding batch_data
no_float_batch batch = no_float_batch_parts (unless_zero batch.epoch) batch.after batch.events
