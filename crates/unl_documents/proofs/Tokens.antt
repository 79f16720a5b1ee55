-- The tokens that are written for JSON values.
use Rattle.std.proofs.Common.{◌≡◌, ℕ, List, [], ◌∷◌, ◌++◌, map, Option, Some, None, option_map, Ok, refl, sym, ap, ◌∙◌, append_assoc}
use Rattle.json.specs.Print.{print}
use Rattle.json.specs.Token.{Token, begin_object, end_object, begin_array, end_array, key, string as string_token}
use Rattle.json.specs.Tree.{items_tokens, members_tokens}
use Rattle.json.specs.Written.{Written, Writes}
use Rattle.serde_json.specs.Data.{Data, boolean, string, array, object, Members, no_members}
use Rattle.serde_json.specs.View.{items_of}
use Rattle.serde_json.specs.Written.{compact_text, items_outline, members_outline}
use Rattle.serde_json.proofs.Texts.{print-outline}
use Rattle.unl_documents.specs.declared.constraint.Constraint.{Constraint}
use Rattle.unl_documents.specs.declared.dependency.Dependency.{Dependency}
use Rattle.unl_documents.specs.declared.feature.Feature.{Feature}
use Rattle.unl_documents.specs.declared.feed.FeedHead.{FeedHead}
use Rattle.unl_documents.specs.declared.field.Field.TheVariants as field
use Rattle.unl_documents.specs.declared.parameters.Pair.{Pair}
use Rattle.unl_documents.specs.declared.segment.Segment.{Segment}
use Rattle.unl_documents.specs.declared.state.State.{State}
use Rattle.unl_documents.specs.declared.strategy.Strategy.{Strategy}
use Rattle.unl_documents.specs.declared.variant.Override.{Override}
use Rattle.unl_documents.specs.declared.variant.Payload.{Payload}
use Rattle.unl_documents.specs.declared.variant.Variant.{Variant}
use Rattle.unl_documents.specs.Key.{key_of}
use Rattle.unl_documents.specs.Operators.{spelling}
use Rattle.unl_documents.specs.Parameters.{AreRising}
use Rattle.unl_documents.specs.Tokens.{tokens_of, all_tokens, tokens_at, tokens_at_some, pair_tokens, Wrote}
use Rattle.unl_documents.specs.Writing.{with, with_some, count, list_data, unless_zero, override_data, payload_data, variant_data, dependency_data, constraint_data, segment_data, parameters_data, strategy_data, feature_data, meta_with, meta_data, query_data, feed_data}
use Rattle.unl_documents.proofs.RoundTrip.{in_order, with_pairs-in_order}

-- Writing one token appends this token.
pub one : {E : Type 0} {x : Unit {0}} {t : Token} {old new : Written} → Writes {E = E} (Ok x) old new t → Wrote (t ∷ []) old new
one w = record { before = w.room.0; tokens = w.ok }

-- Writing the tokens `xs` and then the tokens `ys` appends `xs ++ ys`.
pub then : {xs ys : List Token} {old between new : Written} → Wrote xs old between → Wrote ys between new → Wrote (xs ++ ys) old new
then {xs} {ys} {old} {between} {new} first second =
    record { before = second.before ∙ first.before; tokens = second.tokens ∙ ap (λ ts. ts ++ ys) first.tokens ∙ append_assoc old.tokens xs ys }

-- `Wrote` holds for any list that is equal to the tokens written.
pub spelled : {xs ys : List Token} {old new : Written} → xs ≡ ys → Wrote ys old new → Wrote xs old new
spelled {xs} {ys} {old} {new} same wrote = record { before = wrote.before; tokens = wrote.tokens ∙ ap (λ ts. old.tokens ++ ts) (sym same) }

pub items_tokens_of : (ds : List Data) → items_tokens (items_outline (items_of ds)) ≡ all_tokens ds ++ end_array ∷ []
items_tokens_of [] = refl
items_tokens_of (d ∷ ds) = ap (λ ts. tokens_of d ++ ts) (items_tokens_of ds) ∙ sym (append_assoc (tokens_of d) (all_tokens ds) (end_array ∷ []))

-- The tokens of a list: its items in brackets.
pub list_tokens : (ds : List Data) → tokens_of (array (items_of ds)) ≡ begin_array ∷ (all_tokens ds ++ end_array ∷ [])
list_tokens ds = ap (λ ts. begin_array ∷ ts) (items_tokens_of ds)

-- A value written to an empty output gives the value's JSON text.
pub text_of : (d : Data) (old new : Written) → old.before ≡ [] → old.tokens ≡ [] → Wrote (tokens_of d) old new → new.before ++ print new.tokens ≡ compact_text d
text_of d old new before none wrote =
    let tokens : new.tokens ≡ tokens_of d = wrote.tokens ∙ ap (λ ts. ts ++ tokens_of d) none in
    ap (λ bytes. bytes ++ print new.tokens) (wrote.before ∙ before) ∙ ap print tokens ∙ print-outline d

-- ---- the tokens of each object: its keys in byte order, with and without the optional keys

pub override_tokens : (o : Override)
    → tokens_of (override_data o)
    ≡ begin_object ∷ (tokens_at field.ContextName (string o.field) ++ (tokens_at field.Values (list_data string o.values) ++ end_object ∷ []))
unfolding override_data
override_tokens o = refl

pub payload_tokens : (p : Payload)
    → tokens_of (payload_data p)
    ≡ begin_object ∷ (tokens_at field.Kind (string p.kind) ++ (tokens_at field.Value (string p.value) ++ end_object ∷ []))
unfolding payload_data
payload_tokens p = refl

pub dependency_tokens : (d : Dependency)
    → tokens_of (dependency_data d)
    ≡ begin_object ∷ (tokens_at field.Enabled (boolean d.enabled) ++ (tokens_at field.Feature (string d.feature) ++ (tokens_at field.Variants (list_data string d.variants) ++ end_object ∷ [])))
unfolding dependency_data
dependency_tokens d = refl

pub segment_tokens : (s : Segment)
    → tokens_of (segment_data s)
    ≡ begin_object ∷ (tokens_at field.Constraints (list_data constraint_data s.constraints) ++ (tokens_at field.Id (count s.id) ++ end_object ∷ []))
unfolding segment_data
segment_tokens s = refl

pub strategy_tokens : (s : Strategy)
    → tokens_of (strategy_data s)
    ≡ begin_object ∷ (tokens_at field.Constraints (list_data constraint_data s.constraints) ++ (tokens_at field.Name (string s.name)
    ++ (key (key_of field.Parameters) ∷ (tokens_of (parameters_data s.parameters)
    ++ (tokens_at field.Segments (list_data count s.segments) ++ (tokens_at field.Variants (list_data variant_data s.variants) ++ end_object ∷ []))))))
unfolding strategy_data
strategy_tokens s = refl

pub query_tokens : (head : FeedHead)
    → tokens_of (query_data head)
    ≡ begin_object ∷ (tokens_at field.Environment (string head.environment) ++ (tokens_at field.Projects (list_data string head.projects) ++ end_object ∷ []))
unfolding query_data
query_tokens head = refl

pub feed_tokens : (head : FeedHead) (state : State)
    → tokens_of (feed_data head state)
    ≡ begin_object ∷ (tokens_at field.Features (list_data feature_data state.features) ++ (key (key_of field.Meta) ∷ (tokens_of (meta_data head)
    ++ (key (key_of field.Query) ∷ (tokens_of (query_data head)
    ++ (tokens_at field.Segments (list_data segment_data state.segments) ++ (tokens_at field.Version (count 2) ++ end_object ∷ [])))))))
unfolding feed_data
feed_tokens head state = refl

constraint_keys : (value : Option Data) (c : Constraint)
    → tokens_of (object (with_some field.Value value (with field.ContextName (string c.field) (with field.Operator (string (spelling c.operator))
    (with field.Values (list_data string c.values) (with field.CaseInsensitive (boolean c.caseless) (with field.Inverted (boolean c.inverted) no_members)))))))
    ≡ begin_object ∷ (tokens_at field.CaseInsensitive (boolean c.caseless) ++ (tokens_at field.ContextName (string c.field) ++ (tokens_at field.Inverted (boolean c.inverted)
    ++ (tokens_at field.Operator (string (spelling c.operator)) ++ (tokens_at_some field.Value value ++ (tokens_at field.Values (list_data string c.values) ++ end_object ∷ []))))))
constraint_keys None c = refl
constraint_keys (Some d) c = refl

pub constraint_tokens : (c : Constraint)
    → tokens_of (constraint_data c)
    ≡ begin_object ∷ (tokens_at field.CaseInsensitive (boolean c.caseless) ++ (tokens_at field.ContextName (string c.field) ++ (tokens_at field.Inverted (boolean c.inverted)
    ++ (tokens_at field.Operator (string (spelling c.operator)) ++ (tokens_at_some field.Value (option_map string c.value) ++ (tokens_at field.Values (list_data string c.values) ++ end_object ∷ []))))))
unfolding constraint_data
constraint_tokens c = constraint_keys (option_map string c.value) c

variant_keys : (stickiness payload : Option Data) (v : Variant)
    → tokens_of (object (with_some field.Stickiness stickiness (with_some field.Payload payload (with field.Name (string v.name)
    (with field.Weight (count v.weight) (with field.Overrides (list_data override_data v.overrides) no_members))))))
    ≡ begin_object ∷ (tokens_at field.Name (string v.name) ++ (tokens_at field.Overrides (list_data override_data v.overrides) ++ (tokens_at_some field.Payload payload
    ++ (tokens_at_some field.Stickiness stickiness ++ (tokens_at field.Weight (count v.weight) ++ end_object ∷ [])))))
variant_keys None None v = refl
variant_keys None (Some p) v = refl
variant_keys (Some s) None v = refl
variant_keys (Some s) (Some p) v = refl

pub variant_tokens : (v : Variant)
    → tokens_of (variant_data v)
    ≡ begin_object ∷ (tokens_at field.Name (string v.name) ++ (tokens_at field.Overrides (list_data override_data v.overrides) ++ (tokens_at_some field.Payload (option_map payload_data v.payload)
    ++ (tokens_at_some field.Stickiness (option_map string v.stickiness) ++ (tokens_at field.Weight (count v.weight) ++ end_object ∷ [])))))
unfolding variant_data
variant_tokens v = variant_keys (option_map string v.stickiness) (option_map payload_data v.payload) v

feature_keys : (description : Option Data) (f : Feature)
    → tokens_of (object (with_some field.Description description (with field.Name (string f.name) (with field.Project (string f.project) (with field.Kind (string f.kind)
    (with field.Enabled (boolean f.enabled) (with field.Stale (boolean f.stale) (with field.ImpressionData (boolean f.impression) (with field.Strategies (list_data strategy_data f.strategies)
    (with field.Variants (list_data variant_data f.variants) (with field.Dependencies (list_data dependency_data f.dependencies) no_members)))))))))))
    ≡ begin_object ∷ (tokens_at field.Dependencies (list_data dependency_data f.dependencies) ++ (tokens_at_some field.Description description ++ (tokens_at field.Enabled (boolean f.enabled)
    ++ (tokens_at field.ImpressionData (boolean f.impression) ++ (tokens_at field.Name (string f.name) ++ (tokens_at field.Project (string f.project) ++ (tokens_at field.Stale (boolean f.stale)
    ++ (tokens_at field.Strategies (list_data strategy_data f.strategies) ++ (tokens_at field.Kind (string f.kind) ++ (tokens_at field.Variants (list_data variant_data f.variants) ++ end_object ∷ []))))))))))
feature_keys None f = refl
feature_keys (Some d) f = refl

pub feature_tokens : (f : Feature)
    → tokens_of (feature_data f)
    ≡ begin_object ∷ (tokens_at field.Dependencies (list_data dependency_data f.dependencies) ++ (tokens_at_some field.Description (option_map string f.description)
    ++ (tokens_at field.Enabled (boolean f.enabled) ++ (tokens_at field.ImpressionData (boolean f.impression) ++ (tokens_at field.Name (string f.name)
    ++ (tokens_at field.Project (string f.project) ++ (tokens_at field.Stale (boolean f.stale) ++ (tokens_at field.Strategies (list_data strategy_data f.strategies)
    ++ (tokens_at field.Kind (string f.kind) ++ (tokens_at field.Variants (list_data variant_data f.variants) ++ end_object ∷ []))))))))))
unfolding feature_data
feature_tokens f = feature_keys (option_map string f.description) f

meta_keys : (head : FeedHead) (epoch : Option ℕ)
    → tokens_of (meta_with head epoch)
    ≡ begin_object ∷ (tokens_at_some field.Epoch (option_map count epoch) ++ (tokens_at field.Etag (string head.tag) ++ (tokens_at field.RevisionId (count head.number) ++ end_object ∷ [])))
unfolding meta_with
meta_keys head None = refl
meta_keys head (Some n) = refl

pub meta_tokens : (head : FeedHead)
    → tokens_of (meta_data head)
    ≡ begin_object ∷ (tokens_at_some field.Epoch (option_map count (unless_zero head.epoch)) ++ (tokens_at field.Etag (string head.tag) ++ (tokens_at field.RevisionId (count head.number) ++ end_object ∷ [])))
unfolding meta_data
meta_tokens head = meta_keys head (unless_zero head.epoch)

-- ---- parameters

in_order_tokens : (pairs : List Pair) → members_tokens (members_outline (in_order pairs)) ≡ pair_tokens pairs ++ end_object ∷ []
unfolding in_order
in_order_tokens [] = refl
in_order_tokens (p ∷ pairs) = ap (λ ts. key p.key ∷ string_token p.value ∷ ts) (in_order_tokens pairs)

pub parameters_tokens : (pairs : List Pair) → AreRising (map (λ p. p.key) pairs) → tokens_of (parameters_data pairs) ≡ begin_object ∷ (pair_tokens pairs ++ end_object ∷ [])
unfolding parameters_data in_order
parameters_tokens pairs rising =
    ap (λ (ms : Members). tokens_of (object ms)) (with_pairs-in_order [] pairs rising) ∙ ap (λ ts. begin_object ∷ ts) (in_order_tokens pairs)
