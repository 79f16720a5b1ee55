-- The nesting depth of a written command: at most nine.
use Rattle.std.proofs.Common.{ℕ, ◌≤◌, List, [], ◌∷◌, map, Bool, Option, Some, None, arith}
use Rattle.std.specs.Cmp.Lexicographic.{slice_cmp}
use Rattle.std.specs.Ordering.{nat_cmp, match_ordering}
use Rattle.std.specs.declared.cmp.Ordering.TheVariants.{Less, Equal, Greater}
use Rattle.serde_json.specs.Data.{Data, Members, no_members, member, put, string, depth, items_depth, members_depth}
use Rattle.serde_json.specs.View.{items_of}
use Rattle.unl_documents.specs.declared.constraint.Constraint.{Constraint}
use Rattle.unl_documents.specs.declared.dependency.Dependency.{Dependency}
use Rattle.unl_documents.specs.declared.feature.Feature.{Feature}
use Rattle.unl_documents.specs.declared.operator.Operator.{Operator}
use Rattle.unl_documents.specs.declared.parameters.Pair.{Pair}
use Rattle.unl_documents.specs.declared.segment.Segment.{Segment}
use Rattle.unl_documents.specs.declared.strategy.Strategy.{Strategy}
use Rattle.unl_documents.specs.declared.variant.Override.{Override}
use Rattle.unl_documents.specs.declared.variant.Payload.{Payload}
use Rattle.unl_documents.specs.declared.variant.Variant.{Variant}
use Rattle.unl_documents.specs.Writing.{count, with_pairs, override_data, payload_data, variant_data, dependency_data, constraint_data, segment_data, parameters_data, strategy_data, feature_data}
use Rattle.unl_upstream.specs.declared.command.Command.{Command}
use Rattle.unl_upstream.specs.declared.command.Command.TheVariants.{PutFeature, RemoveFeature, PutSegment, RemoveSegment}
use Rattle.unl_upstream.specs.Writing.{command_data}

-- a list of values of depth at most n has depth at most n
items_deep : {T : Type 0} (written : T → Data) (n : ℕ) → ((x : T) → depth (written x) ≤ n) → (xs : List T) → items_depth (items_of (map written xs)) ≤ n
items_deep written n small [] = omega arith
items_deep written n small (x ∷ xs) = omega (arith, small x, items_deep written n small xs)

texts_flat : (xs : List (List ℕ)) → items_depth (items_of (map string xs)) ≤ 0
texts_flat = items_deep string 0 (λ x. omega arith)

-- ---- parameters

put_flat : (name text : List ℕ) (ms : Members) → members_depth ms ≤ 0 → members_depth (put name (string text) ms) ≤ 0
put_flat name text no_members h = omega arith
put_flat name text (member other value ms) h =
    let rest = put_flat name text ms (omega arith) in
    elim (slice_cmp nat_cmp name other) as (λ o. members_depth (match_ordering o (member name (string text) (member other value ms)) (member other (string text) ms) (member other value (put name (string text) ms))) ≤ 0) [
      | Less ↦ omega arith
      | Equal ↦ omega arith
      | Greater ↦ omega arith
    ]

pairs_flat : (pairs : List Pair) (ms : Members) → members_depth ms ≤ 0 → members_depth (with_pairs pairs ms) ≤ 0
pairs_flat [] ms h = h
pairs_flat (p ∷ pairs) ms h = pairs_flat pairs (put p.key (string p.value) ms) (put_flat p.key p.value ms h)

parameters_deep : (pairs : List Pair) → depth (parameters_data pairs) ≤ 1
unfolding parameters_data
parameters_deep pairs = omega (arith, pairs_flat pairs no_members (omega arith))

-- ---- objects

override_deep : (o : Override) → depth (override_data o) ≤ 2
unfolding override_data
override_deep o = omega (arith, texts_flat o.values)

payload_deep : (p : Payload) → depth (payload_data p) ≤ 1
unfolding payload_data
payload_deep p = omega arith

variant_parts : (name : List ℕ) (weight : ℕ) (stickiness : Option (List ℕ)) (payload : Option Payload) (overrides : List Override)
    → depth (variant_data (record { name = name; weight = weight; stickiness = stickiness; payload = payload; overrides = overrides })) ≤ 4
unfolding variant_data
variant_parts name weight None None overrides = omega (arith, items_deep override_data 2 override_deep overrides)
variant_parts name weight None (Some p) overrides = omega (arith, items_deep override_data 2 override_deep overrides, payload_deep p)
variant_parts name weight (Some s) None overrides = omega (arith, items_deep override_data 2 override_deep overrides)
variant_parts name weight (Some s) (Some p) overrides = omega (arith, items_deep override_data 2 override_deep overrides, payload_deep p)

variant_deep : (v : Variant) → depth (variant_data v) ≤ 4
variant_deep v = variant_parts v.name v.weight v.stickiness v.payload v.overrides

dependency_deep : (d : Dependency) → depth (dependency_data d) ≤ 2
unfolding dependency_data
dependency_deep d = omega (arith, texts_flat d.variants)

constraint_parts : (field : List ℕ) (op : Operator) (values : List (List ℕ)) (value : Option (List ℕ)) (caseless inverted : Bool)
    → depth (constraint_data (record { field = field; operator = op; values = values; value = value; caseless = caseless; inverted = inverted })) ≤ 2
unfolding constraint_data
constraint_parts field op values None caseless inverted = omega (arith, texts_flat values)
constraint_parts field op values (Some v) caseless inverted = omega (arith, texts_flat values)

constraint_deep : (c : Constraint) → depth (constraint_data c) ≤ 2
constraint_deep c = constraint_parts c.field c.operator c.values c.value c.caseless c.inverted

segment_deep : (s : Segment) → depth (segment_data s) ≤ 4
unfolding segment_data
segment_deep s = omega (arith, items_deep constraint_data 2 constraint_deep s.constraints)

strategy_deep : (s : Strategy) → depth (strategy_data s) ≤ 6
unfolding strategy_data
strategy_deep s =
    let constraints = items_deep constraint_data 2 constraint_deep s.constraints in
    let segments = items_deep count 0 (λ n. omega arith) s.segments in
    let variants = items_deep variant_data 4 variant_deep s.variants in
    omega (arith, constraints, parameters_deep s.parameters, segments, variants)

feature_parts : (f : Feature) (description : Option (List ℕ))
    → depth (feature_data (record { name = f.name; project = f.project; kind = f.kind; description = description; enabled = f.enabled; stale = f.stale; impression = f.impression; strategies = f.strategies; variants = f.variants; dependencies = f.dependencies })) ≤ 8
unfolding feature_data
feature_parts f None =
    let dependencies = items_deep dependency_data 2 dependency_deep f.dependencies in
    let strategies = items_deep strategy_data 6 strategy_deep f.strategies in
    let variants = items_deep variant_data 4 variant_deep f.variants in
    omega (arith, dependencies, strategies, variants)
feature_parts f (Some d) =
    let dependencies = items_deep dependency_data 2 dependency_deep f.dependencies in
    let strategies = items_deep strategy_data 6 strategy_deep f.strategies in
    let variants = items_deep variant_data 4 variant_deep f.variants in
    omega (arith, dependencies, strategies, variants)

feature_deep : (f : Feature) → depth (feature_data f) ≤ 8
feature_deep f = feature_parts f f.description

-- ---- commands

pub command_deep : (command : Command) → depth (command_data command) ≤ 9
unfolding command_data
command_deep (PutFeature environment feature) = omega (arith, feature_deep feature)
command_deep (RemoveFeature environment name) = omega arith
command_deep (PutSegment environment segment) = omega (arith, segment_deep segment)
command_deep (RemoveSegment environment id) = omega arith
