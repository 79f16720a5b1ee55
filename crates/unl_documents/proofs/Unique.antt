-- A value represents at most one document.
use Rattle.std.proofs.Common.{◌≡◌, ℕ, List, [], ◌∷◌, true, false, Option, Some, None, refl, sym, ap, subst, ◌∙◌}
use Rattle.std.specs.Prelude.{MatchOption}
use Rattle.serde_json.specs.Data.{Data, unsigned, null, boolean, number, string, array, object, Items, no_items, item, Members, no_members, member}
use Rattle.unl_documents.specs.declared.field.Field.{Field}
use Rattle.unl_documents.specs.declared.parameters.Pair.{Pair}
use Rattle.unl_documents.specs.Kinds.{at, present}
use Rattle.unl_documents.specs.Operators.{operator_of}
use Rattle.unl_documents.specs.Sorting.{IsSorting}
use Rattle.unl_documents.specs.Reads.{IsText, IsTruth, IsWhole, IsTextOrWhole, IsOperator, AreEach, IsList, IsObject, ArePairs, IsParameters, Has, HasOr, MayHave, HasList, HasSorted, ReadsOverride, ReadsDependency, ReadsPayload, ReadsVariant, ReadsConstraint, ReadsSegment, ReadsStrategy, ReadsFeature, ReadsState, ReadsMeta, ReadsFeed}
use Rattle.unl_documents.specs.States.{no_meta}
use Rattle.unl_documents.proofs.OneOrder.{one_sorting}

-- `Is` relates each JSON value to at most one `T`.
abbrev pub One : {T : Type 0} → (Data → T → Type 0) → Type 0
One {T} Is = (value : Data) (a b : T) → Is value a → Is value b → a ≡ b

text_one : One IsText
text_one value a b x y = let same : string a ≡ string b = sym x ∙ y in cc

truth_one : One IsTruth
truth_one value a b x y = let same : boolean a ≡ boolean b = sym x ∙ y in cc

whole_one : One IsWhole
whole_one value a b x y = let same : number (unsigned a) ≡ number (unsigned b) = sym x ∙ y in cc

text_or_whole_one : One IsTextOrWhole
text_or_whole_one null a b x y = absurd x
text_or_whole_one (boolean t) a b x y = x ∙ sym y
text_or_whole_one (number n) a b x y = x.1 ∙ sym y.1
text_or_whole_one (string text) a b x y = x ∙ sym y
text_or_whole_one (array values) a b x y = absurd x
text_or_whole_one (object inside) a b x y = absurd x

operator_one : One IsOperator
operator_one value a b x y = x.2 ∙ ap operator_of (text_one value x.0 y.0 x.1 y.1) ∙ sym y.2

each_one : {T : Type 0} (Is : Data → T → Type 0) → One Is → (items : Items) (xs ys : List T) → AreEach Is items xs → AreEach Is items ys → xs ≡ ys
each_one Is one no_items [] [] x y = refl
each_one Is one no_items [] (b ∷ ys) x y = absurd y
each_one Is one no_items (a ∷ xs) ys x y = absurd x
each_one Is one (item value values) [] ys x y = absurd x
each_one Is one (item value values) (a ∷ xs) [] x y = absurd y
each_one Is one (item value values) (a ∷ xs) (b ∷ ys) x y =
    let first : a ≡ b = one value a b x.0 y.0 in
    let others : xs ≡ ys = each_one Is one values xs ys x.1 y.1 in
    λ i. first i ∷ others i

list_one : {T : Type 0} (Is : Data → T → Type 0) → One Is → One (IsList Is)
list_one {T} Is one value xs ys x y =
    let same : array y.0 ≡ array x.0 = sym y.1 ∙ x.1 in
    let items : y.0 ≡ x.0 = cc in
    each_one Is one x.0 xs ys x.2 (subst (λ (i : Items). AreEach Is i ys) items y.2)

object_one : {T : Type 0} (Reads : Data → T → Type 0) → One Reads → One (IsObject Reads)
object_one Reads one value a b x y = one value a b x.1 y.1

pairs_at : (o : Option Data) (name : List ℕ) (inside : Members) (ps qs : List Pair) → ((rs ts : List Pair) → ArePairs inside rs → ArePairs inside ts → rs ≡ ts)
    → MatchOption o (ArePairs inside ps) (λ found. (text : List ℕ) × (others : List Pair) × (ps ≡ record { key = name; value = text } ∷ others) × IsTextOrWhole found text × ArePairs inside others)
    → MatchOption o (ArePairs inside qs) (λ found. (text : List ℕ) × (others : List Pair) × (qs ≡ record { key = name; value = text } ∷ others) × IsTextOrWhole found text × ArePairs inside others) → ps ≡ qs
pairs_at None name inside ps qs one x y = one ps qs x y
pairs_at (Some found) name inside ps qs one x y =
    let text : x.0 ≡ y.0 = text_or_whole_one found x.0 y.0 x.3 y.3 in
    let others : x.1 ≡ y.1 = one x.1 y.1 x.4 y.4 in
    let same : record { key = name; value = x.0 } ∷ x.1 ≡ record { key = name; value = y.0 } ∷ y.1 = λ i. record { key = name; value = text i } ∷ others i in
    x.2 ∙ same ∙ sym y.2

pairs_one : (inside : Members) (ps qs : List Pair) → ArePairs inside ps → ArePairs inside qs → ps ≡ qs
pairs_one no_members ps qs x y = x ∙ sym y
pairs_one (member name value inside) ps qs x y = pairs_at (present value) name inside ps qs (pairs_one inside) x y

parameters_one : One IsParameters
parameters_one value ps qs x y =
    let same : object y.0 ≡ object x.0 = sym y.1 ∙ x.1 in
    let inside : y.0 ≡ x.0 = cc in
    pairs_one x.0 ps qs x.2 (subst (λ (m : Members). ArePairs m qs) inside y.2)

-- ---- keys

found_one : {T : Type 0} (Is : Data → T → Type 0) → One Is → (absent : T → Type 0) → ((a b : T) → absent a → absent b → a ≡ b) → (o : Option Data) (a b : T) → MatchOption o (absent a) (λ found. Is found a) → MatchOption o (absent b) (λ found. Is found b) → a ≡ b
found_one Is one absent none None a b x y = none a b x y
found_one Is one absent none (Some found) a b x y = one found a b x y

has_one : {T : Type 0} (Is : Data → T → Type 0) → One Is → (field : Field) → One (Has Is field)
has_one Is one field value a b x y = found_one Is one (λ _. ⊥) (λ _ _ no _. absurd no) (at field value) a b x y

has_or_one : {T : Type 0} (default : T) (Is : Data → T → Type 0) → One Is → (field : Field) → One (HasOr default Is field)
has_or_one default Is one field value a b x y = found_one Is one (λ c. c ≡ default) (λ _ _ p q. p ∙ sym q) (at field value) a b x y

may_have_one : {T : Type 0} (Is : Data → T → Type 0) → One Is → (field : Field) → One (MayHave Is field)
may_have_one {T} Is one field value a b x y =
    found_one (λ found (o : Option T). (z : T) × (o ≡ Some z) × Is found z) (λ found c d p q. p.1 ∙ ap Some (one found p.0 q.0 p.2 q.2) ∙ sym q.1) (λ o. o ≡ None) (λ _ _ p q. p ∙ sym q) (at field value) a b x y

has_list_one : {T : Type 0} (Is : Data → T → Type 0) → One Is → (field : Field) → One (HasList Is field)
has_list_one Is one field = has_or_one [] (IsList Is) (list_one Is one) field

has_objects_one : {T : Type 0} (Reads : Data → T → Type 0) → One Reads → (field : Field) → One (HasList (IsObject Reads) field)
has_objects_one Reads one field = has_list_one (IsObject Reads) (object_one Reads one) field

has_sorted_one : {T : Type 0} (by : T → List ℕ) (Reads : Data → T → Type 0) → One Reads → (field : Field) → One (HasSorted by Reads field)
has_sorted_one {T} by Reads one field value ys zs x y =
    let same : y.0 ≡ x.0 = has_objects_one Reads one field value y.0 x.0 y.1 x.1 in
    one_sorting by x.0 ys zs x.2 (subst (λ (xs : List T). IsSorting by xs zs) same y.2)

-- ---- documents

override_one : One ReadsOverride
override_one value a b x y =
    let field = has_one IsText text_one _ value _ _ x.field y.field in
    let values = has_list_one IsTextOrWhole text_or_whole_one _ value _ _ x.values y.values in
    λ i. record { field = field i; values = values i }

dependency_one : One ReadsDependency
dependency_one value a b x y =
    let feature = has_one IsText text_one _ value _ _ x.feature y.feature in
    let enabled = has_or_one true IsTruth truth_one _ value _ _ x.enabled y.enabled in
    let variants = has_list_one IsText text_one _ value _ _ x.variants y.variants in
    λ i. record { feature = feature i; enabled = enabled i; variants = variants i }

payload_one : One ReadsPayload
payload_one value a b x y =
    let kind = has_one IsText text_one _ value _ _ x.kind y.kind in
    let inside = has_one IsTextOrWhole text_or_whole_one _ value _ _ x.inside y.inside in
    λ i. record { kind = kind i; value = inside i }

variant_one : One ReadsVariant
variant_one value a b x y =
    let name = has_one IsText text_one _ value _ _ x.name y.name in
    let weight = has_one IsWhole whole_one _ value _ _ x.weight y.weight in
    let stickiness = may_have_one IsText text_one _ value _ _ x.stickiness y.stickiness in
    let payload = may_have_one (IsObject ReadsPayload) (object_one ReadsPayload payload_one) _ value _ _ x.payload y.payload in
    let overrides = has_objects_one ReadsOverride override_one _ value _ _ x.overrides y.overrides in
    λ i. record { name = name i; weight = weight i; stickiness = stickiness i; payload = payload i; overrides = overrides i }

constraint_one : One ReadsConstraint
constraint_one value a b x y =
    let field = has_one IsText text_one _ value _ _ x.field y.field in
    let operator = has_one IsOperator operator_one _ value _ _ x.operator y.operator in
    let values = has_list_one IsTextOrWhole text_or_whole_one _ value _ _ x.values y.values in
    let single = may_have_one IsTextOrWhole text_or_whole_one _ value _ _ x.single y.single in
    let caseless = has_or_one false IsTruth truth_one _ value _ _ x.caseless y.caseless in
    let inverted = has_or_one false IsTruth truth_one _ value _ _ x.inverted y.inverted in
    λ i. record { field = field i; operator = operator i; values = values i; value = single i; caseless = caseless i; inverted = inverted i }

pub segment_one : One ReadsSegment
segment_one value a b x y =
    let id = has_one IsWhole whole_one _ value _ _ x.id y.id in
    let constraints = has_objects_one ReadsConstraint constraint_one _ value _ _ x.constraints y.constraints in
    λ i. record { id = id i; constraints = constraints i }

strategy_one : One ReadsStrategy
strategy_one value a b x y =
    let name = has_one IsText text_one _ value _ _ x.name y.name in
    let parameters = has_or_one [] IsParameters parameters_one _ value _ _ x.parameters y.parameters in
    let constraints = has_objects_one ReadsConstraint constraint_one _ value _ _ x.constraints y.constraints in
    let segments = has_list_one IsWhole whole_one _ value _ _ x.segments y.segments in
    let variants = has_objects_one ReadsVariant variant_one _ value _ _ x.variants y.variants in
    λ i. record { name = name i; parameters = parameters i; constraints = constraints i; segments = segments i; variants = variants i }

pub feature_one : One ReadsFeature
feature_one value a b x y =
    let name = has_one IsText text_one _ value _ _ x.name y.name in
    let project = has_or_one _ IsText text_one _ value _ _ x.project y.project in
    let kind = has_or_one _ IsText text_one _ value _ _ x.kind y.kind in
    let description = may_have_one IsText text_one _ value _ _ x.description y.description in
    let enabled = has_one IsTruth truth_one _ value _ _ x.enabled y.enabled in
    let stale = has_or_one false IsTruth truth_one _ value _ _ x.stale y.stale in
    let impression = has_or_one false IsTruth truth_one _ value _ _ x.impression y.impression in
    let strategies = has_objects_one ReadsStrategy strategy_one _ value _ _ x.strategies y.strategies in
    let variants = has_objects_one ReadsVariant variant_one _ value _ _ x.variants y.variants in
    let dependencies = has_objects_one ReadsDependency dependency_one _ value _ _ x.dependencies y.dependencies in
    λ i. record { name = name i; project = project i; kind = kind i; description = description i; enabled = enabled i; stale = stale i; impression = impression i; strategies = strategies i; variants = variants i; dependencies = dependencies i }

pub state_one : One ReadsState
state_one value a b x y =
    let features = has_sorted_one _ ReadsFeature feature_one _ value _ _ x.features y.features in
    let segments = has_sorted_one _ ReadsSegment segment_one _ value _ _ x.segments y.segments in
    λ i. record { features = features i; segments = segments i }

meta_one : One ReadsMeta
meta_one value a b x y =
    let epoch = has_or_one 0 IsWhole whole_one _ value _ _ x.epoch y.epoch in
    let number = may_have_one IsWhole whole_one _ value _ _ x.number y.number in
    λ i. record { epoch = epoch i; number = number i }

pub feed_one : One ReadsFeed
feed_one value a b x y =
    let state = state_one value _ _ x.state y.state in
    let meta = has_or_one no_meta (IsObject ReadsMeta) (object_one ReadsMeta meta_one) _ value _ _ x.meta y.meta in
    λ i. record { epoch = (meta i).epoch; state = state i; number = (meta i).number }
