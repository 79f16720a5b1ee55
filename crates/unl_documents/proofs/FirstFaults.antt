-- Reading a document fails with the first fault of its keys.
use Rattle.std.proofs.Common.{◌≡◌, List, [], ◌∷◌, Bool, true, false, cond, Ok, Err, refl, sym, ap, ◌∙◌}
use Rattle.std.specs.Prelude.{codes}
use Rattle.serde_json.specs.Data.{Data}
use Rattle.unl_documents.specs.declared.fault.BadDocument.{BadDocument}
use Rattle.unl_documents.specs.declared.fault.BadDocument.TheVariants.{NotJson}
use Rattle.unl_documents.specs.Documents.{override_of, dependency_of, payload_of, variant_of, constraint_of, segment_of, strategy_of, feature_of}
use Rattle.unl_documents.specs.Faults.{fault_of, before, first, faults_of_document, faults_of_lists, faults_of_override, faults_of_dependency, faults_of_payload, faults_of_variant, faults_of_constraint, faults_of_segment, faults_of_strategy, faults_of_meta, faults_of_feature, faults_of_state, faults_of_feed}
use Rattle.unl_documents.specs.declared.field.Field.TheVariants as field
use Rattle.unl_documents.specs.declared.state.State.{State}
use Rattle.unl_documents.specs.Kinds.{any_text, any_whole, defaulted, document, is_object, name, names, numbers, object_of, objects, optional, required, text, text_or_whole, texts, truth, whole}
use Rattle.unl_documents.specs.Operators.{operator}
use Rattle.unl_documents.specs.Parameters.{parameters}
use Rattle.unl_documents.specs.Reading.{Reading, ◌>>=◌}
use Rattle.unl_documents.specs.Sorting.{in_order}
use Rattle.unl_documents.specs.States.{as_is, feed_of, id_key, id_text, meta_of, name_key, no_meta, state_of}

-- If one to ten keys are read in order and combined by `make`, the fault is that of the first key that fails.
keys_1 : {A T : Type 0} (a : Reading A) (make : A → T)
    → fault_of (a >>= λ (xa : A). Ok (make xa)) ≡ first (before a [])
keys_1 (Ok x) make = refl
keys_1 (Err fault) make = refl

keys_2 : {A B T : Type 0} (a : Reading A) (b : Reading B) (make : A → B → T)
    → fault_of (a >>= λ (xa : A). b >>= λ (xb : B). Ok (make xa xb)) ≡ first (before a (before b []))
keys_2 (Ok x) b make = keys_1 b (make x)
keys_2 (Err fault) b make = refl

keys_3 : {A B C T : Type 0} (a : Reading A) (b : Reading B) (c : Reading C) (make : A → B → C → T)
    → fault_of (a >>= λ (xa : A). b >>= λ (xb : B). c >>= λ (xc : C). Ok (make xa xb xc)) ≡ first (before a (before b (before c [])))
keys_3 (Ok x) b c make = keys_2 b c (make x)
keys_3 (Err fault) b c make = refl

keys_4 : {A B C D T : Type 0} (a : Reading A) (b : Reading B) (c : Reading C) (d : Reading D) (make : A → B → C → D → T)
    → fault_of (a >>= λ (xa : A). b >>= λ (xb : B). c >>= λ (xc : C). d >>= λ (xd : D). Ok (make xa xb xc xd)) ≡ first (before a (before b (before c (before d []))))
keys_4 (Ok x) b c d make = keys_3 b c d (make x)
keys_4 (Err fault) b c d make = refl

keys_5 : {A B C D E T : Type 0} (a : Reading A) (b : Reading B) (c : Reading C) (d : Reading D) (e : Reading E) (make : A → B → C → D → E → T)
    → fault_of (a >>= λ (xa : A). b >>= λ (xb : B). c >>= λ (xc : C). d >>= λ (xd : D). e >>= λ (xe : E). Ok (make xa xb xc xd xe)) ≡ first (before a (before b (before c (before d (before e [])))))
keys_5 (Ok x) b c d e make = keys_4 b c d e (make x)
keys_5 (Err fault) b c d e make = refl

keys_6 : {A B C D E F T : Type 0} (a : Reading A) (b : Reading B) (c : Reading C) (d : Reading D) (e : Reading E) (f : Reading F) (make : A → B → C → D → E → F → T)
    → fault_of (a >>= λ (xa : A). b >>= λ (xb : B). c >>= λ (xc : C). d >>= λ (xd : D). e >>= λ (xe : E). f >>= λ (xf : F). Ok (make xa xb xc xd xe xf)) ≡ first (before a (before b (before c (before d (before e (before f []))))))
keys_6 (Ok x) b c d e f make = keys_5 b c d e f (make x)
keys_6 (Err fault) b c d e f make = refl

keys_7 : {A B C D E F G T : Type 0} (a : Reading A) (b : Reading B) (c : Reading C) (d : Reading D) (e : Reading E) (f : Reading F) (g : Reading G) (make : A → B → C → D → E → F → G → T)
    → fault_of (a >>= λ (xa : A). b >>= λ (xb : B). c >>= λ (xc : C). d >>= λ (xd : D). e >>= λ (xe : E). f >>= λ (xf : F). g >>= λ (xg : G). Ok (make xa xb xc xd xe xf xg)) ≡ first (before a (before b (before c (before d (before e (before f (before g [])))))))
keys_7 (Ok x) b c d e f g make = keys_6 b c d e f g (make x)
keys_7 (Err fault) b c d e f g make = refl

keys_8 : {A B C D E F G H T : Type 0} (a : Reading A) (b : Reading B) (c : Reading C) (d : Reading D) (e : Reading E) (f : Reading F) (g : Reading G) (h : Reading H) (make : A → B → C → D → E → F → G → H → T)
    → fault_of (a >>= λ (xa : A). b >>= λ (xb : B). c >>= λ (xc : C). d >>= λ (xd : D). e >>= λ (xe : E). f >>= λ (xf : F). g >>= λ (xg : G). h >>= λ (xh : H). Ok (make xa xb xc xd xe xf xg xh)) ≡ first (before a (before b (before c (before d (before e (before f (before g (before h []))))))))
keys_8 (Ok x) b c d e f g h make = keys_7 b c d e f g h (make x)
keys_8 (Err fault) b c d e f g h make = refl

keys_9 : {A B C D E F G H I T : Type 0} (a : Reading A) (b : Reading B) (c : Reading C) (d : Reading D) (e : Reading E) (f : Reading F) (g : Reading G) (h : Reading H) (i : Reading I) (make : A → B → C → D → E → F → G → H → I → T)
    → fault_of (a >>= λ (xa : A). b >>= λ (xb : B). c >>= λ (xc : C). d >>= λ (xd : D). e >>= λ (xe : E). f >>= λ (xf : F). g >>= λ (xg : G). h >>= λ (xh : H). i >>= λ (xi : I). Ok (make xa xb xc xd xe xf xg xh xi)) ≡ first (before a (before b (before c (before d (before e (before f (before g (before h (before i [])))))))))
keys_9 (Ok x) b c d e f g h i make = keys_8 b c d e f g h i (make x)
keys_9 (Err fault) b c d e f g h i make = refl

keys_10 : {A B C D E F G H I J T : Type 0} (a : Reading A) (b : Reading B) (c : Reading C) (d : Reading D) (e : Reading E) (f : Reading F) (g : Reading G) (h : Reading H) (i : Reading I) (j : Reading J) (make : A → B → C → D → E → F → G → H → I → J → T)
    → fault_of (a >>= λ (xa : A). b >>= λ (xb : B). c >>= λ (xc : C). d >>= λ (xd : D). e >>= λ (xe : E). f >>= λ (xf : F). g >>= λ (xg : G). h >>= λ (xh : H). i >>= λ (xi : I). j >>= λ (xj : J). Ok (make xa xb xc xd xe xf xg xh xi xj)) ≡ first (before a (before b (before c (before d (before e (before f (before g (before h (before i (before j []))))))))))
keys_10 (Ok x) b c d e f g h i j make = keys_9 b c d e f g h i j (make x)
keys_10 (Err fault) b c d e f g h i j make = refl

pub override_first : (value : Data) → fault_of (override_of value) ≡ first (faults_of_override value)
unfolding override_of faults_of_override
override_first value =
    keys_2 (required name field.ContextName value)
    (defaulted [] (texts 10000 4096) field.Values value)
    (λ a b. record { field = a; values = b })

pub dependency_first : (value : Data) → fault_of (dependency_of value) ≡ first (faults_of_dependency value)
unfolding dependency_of faults_of_dependency
dependency_first value =
    keys_3 (required name field.Feature value)
    (defaulted true truth field.Enabled value)
    (defaulted [] (names 100) field.Variants value)
    (λ a b c. record { feature = a; enabled = b; variants = c })

pub payload_first : (value : Data) → fault_of (payload_of value) ≡ first (faults_of_payload value)
unfolding payload_of faults_of_payload
payload_first value =
    keys_2 (required any_text field.Kind value)
    (required (text_or_whole 65536) field.Value value)
    (λ a b. record { kind = a; value = b })

pub meta_first : (value : Data) → fault_of (meta_of value) ≡ first (faults_of_meta value)
unfolding meta_of faults_of_meta
meta_first value =
    keys_2 (defaulted 0 any_whole field.Epoch value)
    (optional any_whole field.RevisionId value)
    (λ a b. record { epoch = a; number = b })

pub variant_first : (value : Data) → fault_of (variant_of value) ≡ first (faults_of_variant value)
unfolding variant_of faults_of_variant
variant_first value =
    keys_5 (required name field.Name value)
    (required (whole 1000) field.Weight value)
    (optional any_text field.Stickiness value)
    (optional (object_of payload_of) field.Payload value)
    (defaulted [] (objects 100 override_of) field.Overrides value)
    (λ a b c d e. record { name = a; weight = b; stickiness = c; payload = d; overrides = e })

pub constraint_first : (value : Data) → fault_of (constraint_of value) ≡ first (faults_of_constraint value)
unfolding constraint_of faults_of_constraint
constraint_first value =
    keys_6 (required name field.ContextName value)
    (required operator field.Operator value)
    (defaulted [] (texts 10000 4096) field.Values value)
    (optional (text_or_whole 4096) field.Value value)
    (defaulted false truth field.CaseInsensitive value)
    (defaulted false truth field.Inverted value)
    (λ a b c d e f. record { field = a; operator = b; values = c; value = d; caseless = e; inverted = f })

pub segment_first : (value : Data) → fault_of (segment_of value) ≡ first (faults_of_segment value)
unfolding segment_of faults_of_segment
segment_first value =
    keys_2 (required any_whole field.Id value)
    (defaulted [] (objects 100 constraint_of) field.Constraints value)
    (λ a b. record { id = a; constraints = b })

pub strategy_first : (value : Data) → fault_of (strategy_of value) ≡ first (faults_of_strategy value)
unfolding strategy_of faults_of_strategy
strategy_first value =
    keys_5 (required name field.Name value)
    (defaulted [] parameters field.Parameters value)
    (defaulted [] (objects 100 constraint_of) field.Constraints value)
    (defaulted [] (numbers 1000) field.Segments value)
    (defaulted [] (objects 100 variant_of) field.Variants value)
    (λ a b c d e. record { name = a; parameters = b; constraints = c; segments = d; variants = e })

pub feature_first : (value : Data) → fault_of (feature_of value) ≡ first (faults_of_feature value)
unfolding feature_of faults_of_feature
feature_first value =
    keys_10 (required name field.Name value)
    (defaulted (codes "default") name field.Project value)
    (defaulted (codes "release") name field.Kind value)
    (optional (text 65536) field.Description value)
    (required truth field.Enabled value)
    (defaulted false truth field.Stale value)
    (defaulted false truth field.ImpressionData value)
    (defaulted [] (objects 100 strategy_of) field.Strategies value)
    (defaulted [] (objects 100 variant_of) field.Variants value)
    (defaulted [] (objects 100 dependency_of) field.Dependencies value)
    (λ a b c d e f g h i j. record { name = a; project = b; kind = c; description = d; enabled = e; stale = f; impression = g; strategies = h; variants = i; dependencies = j })

-- Two lists are read and sorted, and `h` continues with the two results: the fault is the first in this order.
lists_first : {A B C D E F : Type 0} (a : Reading A) (f : A → Reading B) (c : Reading C) (g : C → Reading D) (make : B → D → E) (h : E → Reading F)
    (others : List BadDocument) → ((e : E) → fault_of (h e) ≡ first others)
    → fault_of ((a >>= λ (x : A). f x >>= λ (y : B). c >>= λ (z : C). g z >>= λ (w : D). Ok (make y w)) >>= h) ≡ first (before (a >>= f) (before (c >>= g) others))
lists_first {A} {B} {C} {D} {E} {F} a f c g make h others each = on_first a
  where
    on_fourth : (y : B) (r : Reading D) → fault_of ((r >>= λ (w : D). Ok (make y w)) >>= h) ≡ first (before r others)
    on_fourth y (Ok w) = each (make y w)
    on_fourth y (Err e) = refl

    on_third : (y : B) (r : Reading C) → fault_of ((r >>= λ (z : C). g z >>= λ (w : D). Ok (make y w)) >>= h) ≡ first (before (r >>= g) others)
    on_third y (Ok z) = on_fourth y (g z)
    on_third y (Err e) = refl

    on_second : (r : Reading B) → fault_of ((r >>= λ (y : B). c >>= λ (z : C). g z >>= λ (w : D). Ok (make y w)) >>= h) ≡ first (before r (before (c >>= g) others))
    on_second (Ok y) = on_third y c
    on_second (Err e) = refl

    on_first : (r : Reading A) → fault_of ((r >>= λ (x : A). f x >>= λ (y : B). c >>= λ (z : C). g z >>= λ (w : D). Ok (make y w)) >>= h) ≡ first (before (r >>= f) (before (c >>= g) others))
    on_first (Ok x) = on_second (f x)
    on_first (Err e) = refl

-- A state is read, and `h` continues with the state: the fault is the first in this order.
state_then : {T : Type 0} (value : Data) (h : State → Reading T) (others : List BadDocument)
    → ((s : State) → fault_of (h s) ≡ first others) → fault_of (state_of value >>= h) ≡ first (faults_of_lists value others)
unfolding state_of
state_then value h others each =
    lists_first (defaulted [] (objects 10000 feature_of) field.Features value) (in_order name_key as_is field.Name)
    (defaulted [] (objects 1000 segment_of) field.Segments value) (in_order id_key id_text field.Id)
    (λ features segments. record { features = features; segments = segments }) h others each

itself : {T : Type 0} (r : Reading T) → (r >>= λ (x : T). Ok x) ≡ r
itself (Ok x) = refl
itself (Err e) = refl

pub state_first : (value : Data) → fault_of (state_of value) ≡ first (faults_of_state value)
unfolding faults_of_state
state_first value = sym (ap fault_of (itself (state_of value))) ∙ state_then value (λ s. Ok s) [] (λ s. refl)

pub feed_first : (value : Data) → fault_of (feed_of value) ≡ first (faults_of_feed value)
unfolding feed_of faults_of_feed
feed_first value =
    let meta = defaulted no_meta (object_of meta_of) field.Meta value in
    state_then value (λ state. meta >>= λ m. Ok (record { epoch = m.epoch; state = state; number = m.number })) (before meta [])
    (λ state. keys_1 meta (λ m. record { epoch = m.epoch; state = state; number = m.number }))

-- If reading an object fails with its first fault, so does reading a document that isn't nested in another document.
pub document_first : {T : Type 0} (reads : Data → Reading T) (faults : Data → List BadDocument) (value : Data)
    → fault_of (reads value) ≡ first (faults value) → fault_of (document reads value) ≡ first (faults_of_document faults value)
document_first reads faults value same = decided (is_object value)
  where
    decided : (t : Bool) → fault_of (cond t (reads value) (Err NotJson)) ≡ first (cond t (faults value) (NotJson ∷ []))
    decided true = same
    decided false = refl
