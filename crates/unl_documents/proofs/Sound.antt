-- If a value is read as a document, it represents that document.
use Rattle.std.proofs.Common.{◌≡◌, ℕ, List, [], ◌∷◌, length, Bool, true, false, Option, Some, None, Ok, Err, eqb, refl, sym, ap, subst, ◌∙◌}
use Rattle.std.specs.Prelude.{MatchOption, codes, nat_lt, not, option_to_list, option_map, ◌++◌, if◌then◌else◌}
use Rattle.serde_json.specs.Data.{Data, unsigned, negative, float, null, boolean, number, string, array, object, Items, no_items, item, Members, no_members, member}
use Rattle.serde_json.specs.Events.{items_len, members_len}
use Rattle.serde_json.specs.Written.{compact_text}
use Rattle.unl_documents.specs.declared.field.Field.{Field}
use Rattle.unl_documents.specs.declared.field.Field.TheVariants as field
use Rattle.unl_documents.specs.declared.fault.BadDocument.{BadDocument}
use Rattle.unl_documents.specs.declared.fault.BadDocument.TheVariants.{Missing, TooLarge, NotWhole, WrongKind}
use Rattle.unl_documents.specs.declared.parameters.Pair.{Pair}
use Rattle.unl_documents.specs.Documents.{override_of, payload_of, variant_of, dependency_of, constraint_of, segment_of, strategy_of, feature_of}
use Rattle.unl_documents.specs.Kinds.{all, within, name_of, name, any_text, text, truth, any_whole, whole, text_or_whole, at, present, if_present, required, defaulted, optional, some, each, list, objects, names, texts, numbers, object_of, is_object}
use Rattle.unl_documents.specs.Operators.{operator}
use Rattle.unl_documents.specs.Parameters.{pair_of, pairs_of, parameters}
use Rattle.unl_documents.specs.Reading.{Reading, ◌>>=◌}
use Rattle.unl_documents.specs.Reads.{IsText, IsTruth, IsWhole, IsTextOrWhole, IsOperator, AreEach, IsList, IsObject, ArePairs, IsParameters, Has, HasOr, MayHave, HasList, ReadsOverride, ReadsDependency, ReadsPayload, ReadsVariant, ReadsConstraint, ReadsSegment, ReadsStrategy, ReadsFeature, ReadsState, ReadsMeta, ReadsFeed}
use Rattle.unl_documents.specs.Sorting.{in_order}
use Rattle.unl_documents.specs.States.{name_key, id_key, as_is, id_text, state_of, no_meta, meta_of, feed_of}
use Rattle.unl_documents.proofs.InOrder.{sorting_from_order}

-- ---- steps

-- If two chained readings succeed, each of them succeeds.
bind : {A B : Type 0} (r : Reading A) (k : A → Reading B) (y : B) → (r >>= k) ≡ Ok y → (x : A) × (r ≡ Ok x) × (k x ≡ Ok y)
bind (Ok x) k y h = (x, refl, h)
bind (Err e) k y h = absurd cc

abbrev ok : {T : Type 0} → T → Reading T
ok x = Ok x

ok_is : {T : Type 0} (x y : T) → ok x ≡ Ok y → x ≡ y
ok_is x y h = cc

untested : {T : Type 0} (test : Bool) (e : BadDocument) (r : Reading T) (x : T) → (if test then Err e else r) ≡ Ok x → r ≡ Ok x
untested true e r x h = absurd cc
untested false e r x h = h

-- A sound reading: if it succeeds, the value represents the result.
abbrev pub Sound : {T : Type 0} → (Data → Reading T) → (Data → T → Type 0) → Type 0
Sound {T} reads Is = (value : Data) (x : T) → reads value ≡ Ok x → Is value x

-- ---- kinds

within_is : (most : ℕ) (f : Field) (bytes got : List ℕ) → within most f bytes ≡ Ok got → bytes ≡ got
within_is most f bytes got h = ok_is bytes got (untested (nat_lt most (length bytes)) _ (Ok bytes) got h)

text_is : (most : ℕ) (f : Field) → Sound (text most f) IsText
unfolding text
text_is most f null x h = absurd cc
text_is most f (boolean b) x h = absurd cc
text_is most f (number n) x h = absurd cc
text_is most f (string s) x h = ap string (within_is most f s x h)
text_is most f (array values) x h = absurd cc
text_is most f (object inside) x h = absurd cc

any_text_is : (f : Field) → Sound (any_text f) IsText
unfolding any_text
any_text_is f null x h = absurd cc
any_text_is f (boolean b) x h = absurd cc
any_text_is f (number n) x h = absurd cc
any_text_is f (string s) x h = ap string (ok_is s x h)
any_text_is f (array values) x h = absurd cc
any_text_is f (object inside) x h = absurd cc

name_of_is : (f : Field) (bytes got : List ℕ) → name_of f bytes ≡ Ok got → bytes ≡ got
name_of_is f bytes got h = within_is 255 f bytes got (untested (eqb (length bytes) 0) _ (within 255 f bytes) got h)

name_is : (f : Field) → Sound (name f) IsText
unfolding name
name_is f null x h = absurd cc
name_is f (boolean b) x h = absurd cc
name_is f (number n) x h = absurd cc
name_is f (string s) x h = ap string (name_of_is f s x h)
name_is f (array values) x h = absurd cc
name_is f (object inside) x h = absurd cc

truth_is : (f : Field) → Sound (truth f) IsTruth
unfolding truth
truth_is f null x h = absurd cc
truth_is f (boolean b) x h = ap boolean (ok_is b x h)
truth_is f (number n) x h = absurd cc
truth_is f (string s) x h = absurd cc
truth_is f (array values) x h = absurd cc
truth_is f (object inside) x h = absurd cc

any_whole_is : (f : Field) → Sound (any_whole f) IsWhole
unfolding any_whole
any_whole_is f null x h = absurd cc
any_whole_is f (boolean b) x h = absurd cc
any_whole_is f (number (unsigned n)) x h = ap (λ m. number (unsigned m)) (ok_is n x h)
any_whole_is f (number (negative z)) x h = absurd cc
any_whole_is f (number (float d)) x h = absurd cc
any_whole_is f (string s) x h = absurd cc
any_whole_is f (array values) x h = absurd cc
any_whole_is f (object inside) x h = absurd cc

whole_is : (most : ℕ) (f : Field) → Sound (whole most f) IsWhole
unfolding whole
whole_is most f null x h = absurd cc
whole_is most f (boolean b) x h = absurd cc
whole_is most f (number (unsigned n)) x h = ap (λ m. number (unsigned m)) (ok_is n x (untested (nat_lt most n) _ (Ok n) x h))
whole_is most f (number (negative z)) x h = absurd cc
whole_is most f (number (float d)) x h = absurd cc
whole_is most f (string s) x h = absurd cc
whole_is most f (array values) x h = absurd cc
whole_is most f (object inside) x h = absurd cc

text_or_whole_is : (most : ℕ) (f : Field) → Sound (text_or_whole most f) IsTextOrWhole
unfolding text_or_whole
text_or_whole_is most f null x h = absurd cc
text_or_whole_is most f (boolean b) x h = sym (within_is most f (compact_text (boolean b)) x h)
text_or_whole_is most f (number (unsigned n)) x h = (refl, sym (within_is most f (compact_text (number (unsigned n))) x h))
text_or_whole_is most f (number (negative z)) x h = (refl, sym (within_is most f (compact_text (number (negative z))) x h))
text_or_whole_is most f (number (float d)) x h = absurd cc
text_or_whole_is most f (string s) x h = sym (within_is most f s x h)
text_or_whole_is most f (array values) x h = absurd cc
text_or_whole_is most f (object inside) x h = absurd cc

operator_is : (f : Field) → Sound (operator f) IsOperator
unfolding operator
operator_is f value x h = let a = bind (name f value) _ x h in (a.0, name_is f value a.0 a.1, sym (ok_is _ x a.2))

-- ---- lists

consed : {T : Type 0} (r : Reading T) (rs : Reading (List T)) (xs : List T) → (r >>= λ first. rs >>= λ others. Ok (first ∷ others)) ≡ Ok xs → (first : T) × (others : List T) × (r ≡ Ok first) × (rs ≡ Ok others) × (first ∷ others ≡ xs)
consed (Ok first) (Ok others) xs h = (first, others, refl, refl, ok_is (first ∷ others) xs h)
consed (Ok first) (Err e) xs h = absurd cc
consed (Err e) rs xs h = absurd cc

each_is : {T : Type 0} (kind : Data → Reading T) (Is : Data → T → Type 0) → Sound kind Is → (items : Items) (xs : List T) → each kind items ≡ Ok xs → AreEach Is items xs
unfolding each
each_is {T} kind Is one no_items xs h = subst (λ (ys : List T). AreEach Is no_items ys) (ok_is [] xs h) tt
each_is {T} kind Is one (item value values) xs h =
    let a = consed (kind value) (each kind values) xs h in
    subst (λ (ys : List T). AreEach Is (item value values) ys) a.4 (one value a.0 a.2, each_is kind Is one values a.1 a.3)

list_is : {T : Type 0} (fits is_whole : Data → Bool) (kind : Field → Data → Reading T) (Is : Data → T → Type 0) (most : ℕ) (f : Field) → Sound (kind f) Is → Sound (list fits is_whole kind most f) (IsList Is)
unfolding list
list_is fits is_whole kind Is most f one null xs h = absurd cc
list_is fits is_whole kind Is most f one (boolean b) xs h = absurd cc
list_is fits is_whole kind Is most f one (number n) xs h = absurd cc
list_is fits is_whole kind Is most f one (string s) xs h = absurd cc
list_is fits is_whole kind Is most f one (array items) xs h = (items, refl, each_is (kind f) Is one items xs (untested (nat_lt most (items_len items)) (TooLarge f (items_len items)) _ xs (untested (not (all is_whole items)) (NotWhole f) _ xs (untested (not (all fits items)) (WrongKind f) _ xs h))))
list_is fits is_whole kind Is most f one (object inside) xs h = absurd cc

pub object_at : {T : Type 0} (test : Bool) (r : Reading T) (e : BadDocument) (x : T) → (if test then r else Err e) ≡ Ok x → (test ≡ true) × (r ≡ Ok x)
object_at true r e x h = (refl, h)
object_at false r e x h = absurd cc

pub object_is : {T : Type 0} (reads : Data → Reading T) (Reads : Data → T → Type 0) (f : Field) → Sound reads Reads → Sound (object_of reads f) (IsObject Reads)
unfolding object_of
object_is reads Reads f one value x h = let a = object_at (is_object value) (reads value) _ x h in (a.0, one value x a.1)

-- ---- parameters

abbrev pair_named : List ℕ → List ℕ → Pair
pair_named name text = record { key = name; value = text }

pair_at : (f : Field) (name : List ℕ) (inside : Members) (o : Option Data) (found : Option (List ℕ)) (others pairs : List Pair) → if_present o (Ok None) (λ there. some (text_or_whole 1048576 f there)) ≡ Ok found
    → ArePairs inside others → option_to_list (option_map (pair_named name) found) ++ others ≡ pairs
    → MatchOption o (ArePairs inside pairs) (λ there. (text : List ℕ) × (more : List Pair) × (pairs ≡ record { key = name; value = text } ∷ more) × IsTextOrWhole there text × ArePairs inside more)
pair_at f name inside None None others pairs h all is = subst (λ (ps : List Pair). ArePairs inside ps) is all
pair_at f name inside None (Some t) others pairs h all is = absurd cc
pair_at f name inside (Some there) None others pairs h all is =
    let a = bind (text_or_whole 1048576 f there) (λ x. Ok (Some x)) None h in let no = a.2 in absurd cc
pair_at f name inside (Some there) (Some t) others pairs h all is =
    let a = bind (text_or_whole 1048576 f there) (λ x. Ok (Some x)) (Some t) h in
    let no = a.2 in
    let same : a.0 ≡ t = cc in
    (t, others, sym is, subst (λ (u : List ℕ). IsTextOrWhole there u) same (text_or_whole_is 1048576 f there a.0 a.1), all)

pairs_is : (f : Field) (inside : Members) (pairs : List Pair) → pairs_of f inside ≡ Ok pairs → ArePairs inside pairs
unfolding pairs_of pair_of
pairs_is f no_members pairs h = sym (ok_is [] pairs h)
pairs_is f (member name value inside) pairs h =
    let a = bind (pair_of f name value) (λ first. pairs_of f inside >>= λ others. Ok (option_to_list first ++ others)) pairs h in
    let b = bind (pairs_of f inside) (λ others. Ok (option_to_list a.0 ++ others)) pairs a.2 in
    let p = bind (name_of f name) (λ named. if_present (present value) (Ok None) (λ there. some (text_or_whole 1048576 f there)) >>= λ found. Ok (option_map (pair_named named) found)) a.0 a.1 in
    let q = bind (if_present (present value) (Ok None) (λ there. some (text_or_whole 1048576 f there))) (λ found. Ok (option_map (pair_named p.0) found)) a.0 p.2 in
    let named : option_to_list (option_map (pair_named name) q.0) ++ b.0 ≡ option_to_list (option_map (pair_named p.0) q.0) ++ b.0 = ap (λ (n : List ℕ). option_to_list (option_map (pair_named n) q.0) ++ b.0) (name_of_is f name p.0 p.1) in
    let is = named ∙ ap (λ (o : Option Pair). option_to_list o ++ b.0) (ok_is _ _ q.2) ∙ ok_is _ _ b.2 in
    pair_at f name inside (present value) q.0 b.0 pairs q.1 (pairs_is f inside b.0 b.1) is

parameters_is : (f : Field) → Sound (parameters f) IsParameters
unfolding parameters
parameters_is f null x h = absurd cc
parameters_is f (boolean b) x h = absurd cc
parameters_is f (number n) x h = absurd cc
parameters_is f (string s) x h = absurd cc
parameters_is f (array values) x h = absurd cc
parameters_is f (object inside) x h = (inside, refl, pairs_is f inside x (untested (nat_lt 100 (members_len inside)) _ (pairs_of f inside) x h))

-- ---- keys

required_at : {T : Type 0} (kind : Data → Reading T) (Is : Data → T → Type 0) → Sound kind Is → (o : Option Data) (e : BadDocument) (x : T) → if_present o (Err e) kind ≡ Ok x → MatchOption o ⊥ (λ found. Is found x)
required_at kind Is one None e x h = absurd cc
required_at kind Is one (Some found) e x h = one found x h

required_is : {T : Type 0} (kind : Field → Data → Reading T) (Is : Data → T → Type 0) (f : Field) → Sound (kind f) Is → Sound (required kind f) (Has Is f)
unfolding required
required_is kind Is f one value x h = required_at (kind f) Is one (at f value) (Missing f) x h

defaulted_at : {T : Type 0} (default : T) (kind : Data → Reading T) (Is : Data → T → Type 0) → Sound kind Is → (o : Option Data) (x : T) → if_present o (Ok default) kind ≡ Ok x → MatchOption o (x ≡ default) (λ found. Is found x)
defaulted_at default kind Is one None x h = sym (ok_is default x h)
defaulted_at default kind Is one (Some found) x h = one found x h

defaulted_is : {T : Type 0} (default : T) (kind : Field → Data → Reading T) (Is : Data → T → Type 0) (f : Field) → Sound (kind f) Is → Sound (defaulted default kind f) (HasOr default Is f)
unfolding defaulted
defaulted_is default kind Is f one value x h = defaulted_at default (kind f) Is one (at f value) x h

optional_at : {T : Type 0} (kind : Data → Reading T) (Is : Data → T → Type 0) → Sound kind Is → (o : Option Data) (x : Option T) → if_present o (Ok None) (λ found. some (kind found)) ≡ Ok x → MatchOption o (x ≡ None) (λ found. (y : T) × (x ≡ Some y) × Is found y)
optional_at kind Is one None x h = sym (ok_is None x h)
optional_at kind Is one (Some found) x h = let a = bind (kind found) (λ y. Ok (Some y)) x h in (a.0, sym (ok_is (Some a.0) x a.2), one found a.0 a.1)

optional_is : {T : Type 0} (kind : Field → Data → Reading T) (Is : Data → T → Type 0) (f : Field) → Sound (kind f) Is → Sound (optional kind f) (MayHave Is f)
unfolding optional
optional_is kind Is f one value x h = optional_at (kind f) Is one (at f value) x h

texts_is : (most longest : ℕ) (f : Field) → Sound (defaulted [] (texts most longest) f) (HasList IsTextOrWhole f)
texts_is most longest f = defaulted_is [] (texts most longest) (IsList IsTextOrWhole) f (list_is _ _ (text_or_whole longest) IsTextOrWhole most f (text_or_whole_is longest f))

objects_is : {T : Type 0} (most : ℕ) (reads : Data → Reading T) (Reads : Data → T → Type 0) (f : Field) → Sound reads Reads → Sound (defaulted [] (objects most reads) f) (HasList (IsObject Reads) f)
objects_is most reads Reads f one = defaulted_is [] (objects most reads) (IsList (IsObject Reads)) f (list_is _ _ (object_of reads) (IsObject Reads) most f (object_is reads Reads f one))

-- ---- documents

override_is : Sound override_of ReadsOverride
unfolding override_of
override_is value x h =
    let a = bind (required name field.ContextName value) _ x h in
    let b = bind (defaulted [] (texts 10000 4096) field.Values value) _ x a.2 in
    subst (ReadsOverride value) (ok_is _ x b.2) (record {
      field = required_is name IsText field.ContextName (name_is field.ContextName) value a.0 a.1;
      values = texts_is 10000 4096 field.Values value b.0 b.1;
    })

dependency_is : Sound dependency_of ReadsDependency
unfolding dependency_of
dependency_is value x h =
    let a = bind (required name field.Feature value) _ x h in
    let b = bind (defaulted true truth field.Enabled value) _ x a.2 in
    let c = bind (defaulted [] (names 100) field.Variants value) _ x b.2 in
    subst (ReadsDependency value) (ok_is _ x c.2) (record {
      feature = required_is name IsText field.Feature (name_is field.Feature) value a.0 a.1;
      enabled = defaulted_is true truth IsTruth field.Enabled (truth_is field.Enabled) value b.0 b.1;
      variants = defaulted_is [] (names 100) (IsList IsText) field.Variants (list_is _ _ name IsText 100 field.Variants (name_is field.Variants)) value c.0 c.1;
    })

payload_is : Sound payload_of ReadsPayload
unfolding payload_of
payload_is value x h =
    let a = bind (required any_text field.Kind value) _ x h in
    let b = bind (required (text_or_whole 65536) field.Value value) _ x a.2 in
    subst (ReadsPayload value) (ok_is _ x b.2) (record {
      kind = required_is any_text IsText field.Kind (any_text_is field.Kind) value a.0 a.1;
      inside = required_is (text_or_whole 65536) IsTextOrWhole field.Value (text_or_whole_is 65536 field.Value) value b.0 b.1;
    })

variant_is : Sound variant_of ReadsVariant
unfolding variant_of
variant_is value x h =
    let a = bind (required name field.Name value) _ x h in
    let b = bind (required (whole 1000) field.Weight value) _ x a.2 in
    let c = bind (optional any_text field.Stickiness value) _ x b.2 in
    let d = bind (optional (object_of payload_of) field.Payload value) _ x c.2 in
    let e = bind (defaulted [] (objects 100 override_of) field.Overrides value) _ x d.2 in
    subst (ReadsVariant value) (ok_is _ x e.2) (record {
      name = required_is name IsText field.Name (name_is field.Name) value a.0 a.1;
      weight = required_is (whole 1000) IsWhole field.Weight (whole_is 1000 field.Weight) value b.0 b.1;
      stickiness = optional_is any_text IsText field.Stickiness (any_text_is field.Stickiness) value c.0 c.1;
      payload = optional_is (object_of payload_of) (IsObject ReadsPayload) field.Payload (object_is payload_of ReadsPayload field.Payload payload_is) value d.0 d.1;
      overrides = objects_is 100 override_of ReadsOverride field.Overrides override_is value e.0 e.1;
    })

constraint_is : Sound constraint_of ReadsConstraint
unfolding constraint_of
constraint_is value x h =
    let a = bind (required name field.ContextName value) _ x h in
    let b = bind (required operator field.Operator value) _ x a.2 in
    let c = bind (defaulted [] (texts 10000 4096) field.Values value) _ x b.2 in
    let d = bind (optional (text_or_whole 4096) field.Value value) _ x c.2 in
    let e = bind (defaulted false truth field.CaseInsensitive value) _ x d.2 in
    let g = bind (defaulted false truth field.Inverted value) _ x e.2 in
    subst (ReadsConstraint value) (ok_is _ x g.2) (record {
      field = required_is name IsText field.ContextName (name_is field.ContextName) value a.0 a.1;
      operator = required_is operator IsOperator field.Operator (operator_is field.Operator) value b.0 b.1;
      values = texts_is 10000 4096 field.Values value c.0 c.1;
      single = optional_is (text_or_whole 4096) IsTextOrWhole field.Value (text_or_whole_is 4096 field.Value) value d.0 d.1;
      caseless = defaulted_is false truth IsTruth field.CaseInsensitive (truth_is field.CaseInsensitive) value e.0 e.1;
      inverted = defaulted_is false truth IsTruth field.Inverted (truth_is field.Inverted) value g.0 g.1;
    })

pub segment_is : Sound segment_of ReadsSegment
unfolding segment_of
segment_is value x h =
    let a = bind (required any_whole field.Id value) _ x h in
    let b = bind (defaulted [] (objects 100 constraint_of) field.Constraints value) _ x a.2 in
    subst (ReadsSegment value) (ok_is _ x b.2) (record {
      id = required_is any_whole IsWhole field.Id (any_whole_is field.Id) value a.0 a.1;
      constraints = objects_is 100 constraint_of ReadsConstraint field.Constraints constraint_is value b.0 b.1;
    })

strategy_is : Sound strategy_of ReadsStrategy
unfolding strategy_of
strategy_is value x h =
    let a = bind (required name field.Name value) _ x h in
    let b = bind (defaulted [] parameters field.Parameters value) _ x a.2 in
    let c = bind (defaulted [] (objects 100 constraint_of) field.Constraints value) _ x b.2 in
    let d = bind (defaulted [] (numbers 1000) field.Segments value) _ x c.2 in
    let e = bind (defaulted [] (objects 100 variant_of) field.Variants value) _ x d.2 in
    subst (ReadsStrategy value) (ok_is _ x e.2) (record {
      name = required_is name IsText field.Name (name_is field.Name) value a.0 a.1;
      parameters = defaulted_is [] parameters IsParameters field.Parameters (parameters_is field.Parameters) value b.0 b.1;
      constraints = objects_is 100 constraint_of ReadsConstraint field.Constraints constraint_is value c.0 c.1;
      segments = defaulted_is [] (numbers 1000) (IsList IsWhole) field.Segments (list_is _ _ any_whole IsWhole 1000 field.Segments (any_whole_is field.Segments)) value d.0 d.1;
      variants = objects_is 100 variant_of ReadsVariant field.Variants variant_is value e.0 e.1;
    })

pub feature_is : Sound feature_of ReadsFeature
unfolding feature_of
feature_is value x h =
    let a = bind (required name field.Name value) _ x h in
    let b = bind (defaulted (codes "default") name field.Project value) _ x a.2 in
    let c = bind (defaulted (codes "release") name field.Kind value) _ x b.2 in
    let d = bind (optional (text 65536) field.Description value) _ x c.2 in
    let e = bind (required truth field.Enabled value) _ x d.2 in
    let g = bind (defaulted false truth field.Stale value) _ x e.2 in
    let i = bind (defaulted false truth field.ImpressionData value) _ x g.2 in
    let j = bind (defaulted [] (objects 100 strategy_of) field.Strategies value) _ x i.2 in
    let k = bind (defaulted [] (objects 100 variant_of) field.Variants value) _ x j.2 in
    let l = bind (defaulted [] (objects 100 dependency_of) field.Dependencies value) _ x k.2 in
    subst (ReadsFeature value) (ok_is _ x l.2) (record {
      name = required_is name IsText field.Name (name_is field.Name) value a.0 a.1;
      project = defaulted_is (codes "default") name IsText field.Project (name_is field.Project) value b.0 b.1;
      kind = defaulted_is (codes "release") name IsText field.Kind (name_is field.Kind) value c.0 c.1;
      description = optional_is (text 65536) IsText field.Description (text_is 65536 field.Description) value d.0 d.1;
      enabled = required_is truth IsTruth field.Enabled (truth_is field.Enabled) value e.0 e.1;
      stale = defaulted_is false truth IsTruth field.Stale (truth_is field.Stale) value g.0 g.1;
      impression = defaulted_is false truth IsTruth field.ImpressionData (truth_is field.ImpressionData) value i.0 i.1;
      strategies = objects_is 100 strategy_of ReadsStrategy field.Strategies strategy_is value j.0 j.1;
      variants = objects_is 100 variant_of ReadsVariant field.Variants variant_is value k.0 k.1;
      dependencies = objects_is 100 dependency_of ReadsDependency field.Dependencies dependency_is value l.0 l.1;
    })

pub state_is : Sound state_of ReadsState
unfolding state_of
state_is value x h =
    let a = bind (defaulted [] (objects 10000 feature_of) field.Features value) _ x h in
    let b = bind (in_order name_key as_is field.Name a.0) _ x a.2 in
    let c = bind (defaulted [] (objects 1000 segment_of) field.Segments value) _ x b.2 in
    let d = bind (in_order id_key id_text field.Id c.0) _ x c.2 in
    subst (ReadsState value) (ok_is _ x d.2) (record {
      features = (a.0, objects_is 10000 feature_of ReadsFeature field.Features feature_is value a.0 a.1, sorting_from_order name_key as_is field.Name a.0 b.0 b.1);
      segments = (c.0, objects_is 1000 segment_of ReadsSegment field.Segments segment_is value c.0 c.1, sorting_from_order id_key id_text field.Id c.0 d.0 d.1);
    })

pub meta_is : Sound meta_of ReadsMeta
unfolding meta_of
meta_is value x h =
    let a = bind (defaulted 0 any_whole field.Epoch value) _ x h in
    let b = bind (optional any_whole field.RevisionId value) _ x a.2 in
    subst (ReadsMeta value) (ok_is _ x b.2) (record {
      epoch = defaulted_is 0 any_whole IsWhole field.Epoch (any_whole_is field.Epoch) value a.0 a.1;
      number = optional_is any_whole IsWhole field.RevisionId (any_whole_is field.RevisionId) value b.0 b.1;
    })

pub feed_is : Sound feed_of ReadsFeed
unfolding feed_of
feed_is value x h =
    let a = bind (state_of value) _ x h in
    let b = bind (defaulted no_meta (object_of meta_of) field.Meta value) _ x a.2 in
    subst (ReadsFeed value) (ok_is _ x b.2) (record {
      state = state_is value a.0 a.1;
      meta = defaulted_is no_meta (object_of meta_of) (IsObject ReadsMeta) field.Meta (object_is meta_of ReadsMeta field.Meta meta_is) value b.0 b.1;
    })
