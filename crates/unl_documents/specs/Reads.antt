-- Which document a JSON value represents. The definitions here compare the value and the document key by key. They ignore limits
-- and the order in which keys are read.
use Rattle.std.specs.Prelude.{◌≡◌, ℕ, List, [], ◌∷◌, codes, Bool, true, false, Option, None, Some, MatchOption}
use Rattle.serde_json.specs.Data.{Data, unsigned, null, boolean, number, string, array, object, Items, no_items, item, Members}
use Rattle.serde_json.specs.Data.{no_members, member}
use Rattle.serde_json.specs.Find.{is_float}
use Rattle.serde_json.specs.Written.{compact_text}
use Rattle.unl_documents.specs.declared.field.Field.{Field}
use Rattle.unl_documents.specs.declared.field.Field.TheVariants as key
use Rattle.unl_documents.specs.declared.operator.Operator.{Operator}
use Rattle.unl_documents.specs.declared.parameters.Pair.{Pair}
use Rattle.unl_documents.specs.declared.variant.Override.{Override}
use Rattle.unl_documents.specs.declared.variant.Payload.{Payload}
use Rattle.unl_documents.specs.declared.variant.Variant.{Variant}
use Rattle.unl_documents.specs.declared.constraint.Constraint.{Constraint}
use Rattle.unl_documents.specs.declared.segment.Segment.{Segment}
use Rattle.unl_documents.specs.declared.strategy.Strategy.{Strategy}
use Rattle.unl_documents.specs.declared.feature.Feature.{Feature}
use Rattle.unl_documents.specs.declared.dependency.Dependency.{Dependency}
use Rattle.unl_documents.specs.declared.state.State.{State}
use Rattle.unl_documents.specs.declared.feed.Feed.{Feed}
use Rattle.unl_documents.specs.declared.feed.Meta.{Meta}
use Rattle.unl_documents.specs.Kinds.{at, present, is_object}
use Rattle.unl_documents.specs.Operators.{operator_of}
use Rattle.unl_documents.specs.Sorting.{IsSorting}
use Rattle.unl_documents.specs.States.{name_key, id_key, no_meta}

-- ---- values

-- The value is this text.
abbrev pub IsText : Data → List ℕ → Type 0
IsText value bytes = value ≡ string bytes

-- The value is this boolean.
abbrev pub IsTruth : Data → Bool → Type 0
IsTruth value b = value ≡ boolean b

-- The value is this whole number.
abbrev pub IsWhole : Data → ℕ → Type 0
IsWhole value n = value ≡ number (unsigned n)

-- The value is this text; or it is a boolean, or a number that serde_json doesn't read as floating-point, and this is its JSON text.
abbrev pub IsTextOrWhole : Data → List ℕ → Type 0
IsTextOrWhole null bytes = ⊥
IsTextOrWhole (boolean b) bytes = bytes ≡ compact_text (boolean b)
IsTextOrWhole (number n) bytes = (is_float n ≡ false) × (bytes ≡ compact_text (number n))
IsTextOrWhole (string text) bytes = bytes ≡ text
IsTextOrWhole (array values) bytes = ⊥
IsTextOrWhole (object inside) bytes = ⊥

-- The value is a text, and `op` is the operator with this name: `Unknown` for a name that isn't known.
abbrev pub IsOperator : Data → Operator → Type 0
IsOperator value op = (name : List ℕ) × IsText value name × (op ≡ operator_of name)

-- The JSON items represent the items of the list, one for one; `Is` says what a single item represents.
abbrev pub AreEach : {T : Type 0} → (Data → T → Type 0) → Items → List T → Type 0
AreEach Is no_items [] = Unit {0}
AreEach Is no_items (x ∷ xs) = ⊥
AreEach Is (item value values) [] = ⊥
AreEach Is (item value values) (x ∷ xs) = Is value x × AreEach Is values xs

-- The value is a JSON array whose items represent the items of `xs`.
abbrev pub IsList : {T : Type 0} → (Data → T → Type 0) → Data → List T → Type 0
IsList Is value xs = (items : Items) × (value ≡ array items) × AreEach Is items xs

-- The value is a JSON object that represents `x`.
abbrev pub IsObject : {T : Type 0} → (Data → T → Type 0) → Data → T → Type 0
IsObject Reads value x = (is_object value ≡ true) × Reads value x

-- The members represent the pairs: there is one pair for each member whose value isn't null, with the member's key and
-- the text of its value.
abbrev pub ArePairs : Members → List Pair → Type 0
ArePairs no_members pairs = pairs ≡ []
ArePairs (member name value inside) pairs =
    MatchOption (present value) (ArePairs inside pairs) (λ found. (text : List ℕ) × (others : List Pair)
    × (pairs ≡ record { key = name; value = text } ∷ others) × IsTextOrWhole found text × ArePairs inside others)

-- The value is an object whose members represent these pairs.
abbrev pub IsParameters : Data → List Pair → Type 0
IsParameters value pairs = (inside : Members) × (value ≡ object inside) × ArePairs inside pairs

-- ---- keys

-- The key has a value that represents `x`.
abbrev pub Has : {T : Type 0} → (Data → T → Type 0) → Field → Data → T → Type 0
Has Is field value x = MatchOption (at field value) ⊥ (λ found. Is found x)

-- The key has a value that represents `x`; or it is absent or null, and `x` is the default.
abbrev pub HasOr : {T : Type 0} → T → (Data → T → Type 0) → Field → Data → T → Type 0
HasOr default Is field value x = MatchOption (at field value) (x ≡ default) (λ found. Is found x)

-- The key has a value, and `o` is `Some` with what it represents; or the key is absent or null, and `o` is `None`.
abbrev pub MayHave : {T : Type 0} → (Data → T → Type 0) → Field → Data → Option T → Type 0
MayHave {T} Is field value o = MatchOption (at field value) (o ≡ None) (λ found. (x : T) × (o ≡ Some x) × Is found x)

-- The key has a JSON array whose items represent the items of the list; or it is absent or null, and the list is empty.
abbrev pub HasList : {T : Type 0} → (Data → T → Type 0) → Field → Data → List T → Type 0
HasList Is = HasOr [] (IsList Is)

-- The key has a JSON array of objects, in any order, that represent the items of `ys`; or it is absent or null, and `ys` is empty.
-- `ys` is sorted by `by`, without duplicates.
abbrev pub HasSorted : {T : Type 0} → (T → List ℕ) → (Data → T → Type 0) → Field → Data → List T → Type 0
HasSorted {T} by Reads field value ys = (xs : List T) × HasList (IsObject Reads) field value xs × IsSorting by xs ys

-- ---- documents

-- The value represents the override.
pub record ReadsOverride (value : Data) (o : Override) : Type 0 where
  pub field : Has IsText key.ContextName value o.field
  pub values : HasList IsTextOrWhole key.Values value o.values

-- The value represents the dependency.
pub record ReadsDependency (value : Data) (d : Dependency) : Type 0 where
  pub feature : Has IsText key.Feature value d.feature
  pub enabled : HasOr true IsTruth key.Enabled value d.enabled
  pub variants : HasList IsText key.Variants value d.variants

-- The value represents the payload.
pub record ReadsPayload (value : Data) (p : Payload) : Type 0 where
  pub kind : Has IsText key.Kind value p.kind
  pub inside : Has IsTextOrWhole key.Value value p.value

-- The value represents the variant.
pub record ReadsVariant (value : Data) (v : Variant) : Type 0 where
  pub name : Has IsText key.Name value v.name
  pub weight : Has IsWhole key.Weight value v.weight
  pub stickiness : MayHave IsText key.Stickiness value v.stickiness
  pub payload : MayHave (IsObject ReadsPayload) key.Payload value v.payload
  pub overrides : HasList (IsObject ReadsOverride) key.Overrides value v.overrides

-- The value represents the constraint.
pub record ReadsConstraint (value : Data) (c : Constraint) : Type 0 where
  pub field : Has IsText key.ContextName value c.field
  pub operator : Has IsOperator key.Operator value c.operator
  pub values : HasList IsTextOrWhole key.Values value c.values
  pub single : MayHave IsTextOrWhole key.Value value c.value
  pub caseless : HasOr false IsTruth key.CaseInsensitive value c.caseless
  pub inverted : HasOr false IsTruth key.Inverted value c.inverted

-- The value represents the segment.
pub record ReadsSegment (value : Data) (s : Segment) : Type 0 where
  pub id : Has IsWhole key.Id value s.id
  pub constraints : HasList (IsObject ReadsConstraint) key.Constraints value s.constraints

-- The value represents the strategy.
pub record ReadsStrategy (value : Data) (s : Strategy) : Type 0 where
  pub name : Has IsText key.Name value s.name
  pub parameters : HasOr [] IsParameters key.Parameters value s.parameters
  pub constraints : HasList (IsObject ReadsConstraint) key.Constraints value s.constraints
  pub segments : HasList IsWhole key.Segments value s.segments
  pub variants : HasList (IsObject ReadsVariant) key.Variants value s.variants

-- The value represents the feature.
pub record ReadsFeature (value : Data) (f : Feature) : Type 0 where
  pub name : Has IsText key.Name value f.name
  pub project : HasOr (codes "default") IsText key.Project value f.project
  pub kind : HasOr (codes "release") IsText key.Kind value f.kind
  pub description : MayHave IsText key.Description value f.description
  pub enabled : Has IsTruth key.Enabled value f.enabled
  pub stale : HasOr false IsTruth key.Stale value f.stale
  pub impression : HasOr false IsTruth key.ImpressionData value f.impression
  pub strategies : HasList (IsObject ReadsStrategy) key.Strategies value f.strategies
  pub variants : HasList (IsObject ReadsVariant) key.Variants value f.variants
  pub dependencies : HasList (IsObject ReadsDependency) key.Dependencies value f.dependencies

-- The value represents the state: features sorted by name, segments sorted by id.
pub record ReadsState (value : Data) (s : State) : Type 0 where
  pub features : HasSorted name_key ReadsFeature key.Features value s.features
  pub segments : HasSorted id_key ReadsSegment key.Segments value s.segments

-- The value represents the `meta` object of a feed: an epoch, which is 0 if it is absent or null, and an optional number.
pub record ReadsMeta (value : Data) (m : Meta) : Type 0 where
  pub epoch : HasOr 0 IsWhole key.Epoch value m.epoch
  pub number : MayHave IsWhole key.RevisionId value m.number

-- The value represents the feed.
pub record ReadsFeed (value : Data) (f : Feed) : Type 0 where
  pub state : ReadsState value f.state
  pub meta : HasOr no_meta (IsObject ReadsMeta) key.Meta value (record { epoch = f.epoch; number = f.number })
