-- The faults of a JSON value that is read as a document, in the order in which the keys are read. The fault of a key
-- doesn't depend on the other keys. Reading fails with the first fault of the list.
use Rattle.std.specs.Prelude.{[], ◌∷◌, List, codes, true, false, Option, Some, None, Ok, Err, if◌then◌else◌}
use Rattle.serde_json.specs.Data.{Data}
use Rattle.unl_documents.specs.declared.fault.BadDocument.{BadDocument}
use Rattle.unl_documents.specs.declared.fault.BadDocument.TheVariants.{NotJson}
use Rattle.unl_documents.specs.declared.field.Field.TheVariants as field
use Rattle.unl_documents.specs.Documents.{override_of, dependency_of, payload_of, variant_of, constraint_of, segment_of, strategy_of}
use Rattle.unl_documents.specs.Documents.{feature_of}
use Rattle.unl_documents.specs.Kinds.{name, any_text, text, truth, any_whole, whole, text_or_whole, required, defaulted, optional}
use Rattle.unl_documents.specs.Kinds.{objects, names, texts, numbers, object_of, is_object}
use Rattle.unl_documents.specs.Operators.{operator}
use Rattle.unl_documents.specs.Parameters.{parameters}
use Rattle.unl_documents.specs.Reading.{Reading, ◌>>=◌}
use Rattle.unl_documents.specs.Sorting.{in_order}
use Rattle.unl_documents.specs.States.{name_key, id_key, as_is, id_text, no_meta, meta_of}

-- The fault of a reading that failed; `None` for a reading that succeeded.
abbrev pub fault_of : {T : Type 0} → Reading T → Option BadDocument
fault_of (Ok x) = None
fault_of (Err e) = Some e

-- The fault of a reading, if it failed, followed by `others`.
abbrev pub before : {T : Type 0} → Reading T → List BadDocument → List BadDocument
before (Ok x) others = others
before (Err e) others = e ∷ others

-- The first fault of a list, or `None`.
abbrev pub first : List BadDocument → Option BadDocument
first [] = None
first (e ∷ es) = Some e

-- ---- objects in documents

-- The faults of an override.
unfoldable pub faults_of_override : Data → List BadDocument
faults_of_override value =
    before (required name field.ContextName value) (
    before (defaulted [] (texts 10000 4096) field.Values value) [])

-- The faults of a dependency.
unfoldable pub faults_of_dependency : Data → List BadDocument
faults_of_dependency value =
    before (required name field.Feature value) (
    before (defaulted true truth field.Enabled value) (
    before (defaulted [] (names 100) field.Variants value) []))

-- The faults of a payload.
unfoldable pub faults_of_payload : Data → List BadDocument
faults_of_payload value =
    before (required any_text field.Kind value) (
    before (required (text_or_whole 65536) field.Value value) [])

-- The faults of a variant.
unfoldable pub faults_of_variant : Data → List BadDocument
faults_of_variant value =
    before (required name field.Name value) (
    before (required (whole 1000) field.Weight value) (
    before (optional any_text field.Stickiness value) (
    before (optional (object_of payload_of) field.Payload value) (
    before (defaulted [] (objects 100 override_of) field.Overrides value) []))))

-- The faults of a constraint.
unfoldable pub faults_of_constraint : Data → List BadDocument
faults_of_constraint value =
    before (required name field.ContextName value) (
    before (required operator field.Operator value) (
    before (defaulted [] (texts 10000 4096) field.Values value) (
    before (optional (text_or_whole 4096) field.Value value) (
    before (defaulted false truth field.CaseInsensitive value) (
    before (defaulted false truth field.Inverted value) [])))))

-- The faults of a strategy.
unfoldable pub faults_of_strategy : Data → List BadDocument
faults_of_strategy value =
    before (required name field.Name value) (
    before (defaulted [] parameters field.Parameters value) (
    before (defaulted [] (objects 100 constraint_of) field.Constraints value) (
    before (defaulted [] (numbers 1000) field.Segments value) (
    before (defaulted [] (objects 100 variant_of) field.Variants value) []))))

-- The faults of a feed's `meta` object.
unfoldable pub faults_of_meta : Data → List BadDocument
faults_of_meta value =
    before (defaulted 0 any_whole field.Epoch value) (
    before (optional any_whole field.RevisionId value) [])

-- ---- documents

-- The faults of a segment.
unfoldable pub faults_of_segment : Data → List BadDocument
faults_of_segment value =
    before (required any_whole field.Id value) (
    before (defaulted [] (objects 100 constraint_of) field.Constraints value) [])

-- The faults of a feature.
unfoldable pub faults_of_feature : Data → List BadDocument
faults_of_feature value =
    before (required name field.Name value) (
    before (defaulted (codes "default") name field.Project value) (
    before (defaulted (codes "release") name field.Kind value) (
    before (optional (text 65536) field.Description value) (
    before (required truth field.Enabled value) (
    before (defaulted false truth field.Stale value) (
    before (defaulted false truth field.ImpressionData value) (
    before (defaulted [] (objects 100 strategy_of) field.Strategies value) (
    before (defaulted [] (objects 100 variant_of) field.Variants value) (
    before (defaulted [] (objects 100 dependency_of) field.Dependencies value) [])))))))))

-- The faults of the two lists of a state, followed by `others`. A duplicate name or id is the fault of a list only if
-- reading the list itself doesn't fail.
abbrev pub faults_of_lists : Data → List BadDocument → List BadDocument
faults_of_lists value others =
    before (defaulted [] (objects 10000 feature_of) field.Features value >>= in_order name_key as_is field.Name) (
    before (defaulted [] (objects 1000 segment_of) field.Segments value >>= in_order id_key id_text field.Id) others)

-- The faults of a state.
unfoldable pub faults_of_state : Data → List BadDocument
faults_of_state value = faults_of_lists value []

-- The faults of a feed.
unfoldable pub faults_of_feed : Data → List BadDocument
faults_of_feed value = faults_of_lists value (before (defaulted no_meta (object_of meta_of) field.Meta value) [])

-- ---- the first fault of a whole document

-- The faults of a value that is read as a whole document; `NotJson` alone if the value isn't an object.
abbrev pub faults_of_document : (Data → List BadDocument) → Data → List BadDocument
faults_of_document faults value = if is_object value then faults value else NotJson ∷ []

-- The first fault of a value that is read as a feature.
unfoldable pub first_fault_of_feature : Data → Option BadDocument
first_fault_of_feature value = first (faults_of_document faults_of_feature value)

-- The first fault of a value that is read as a segment.
unfoldable pub first_fault_of_segment : Data → Option BadDocument
first_fault_of_segment value = first (faults_of_document faults_of_segment value)

-- The first fault of a value that is read as a state.
unfoldable pub first_fault_of_state : Data → Option BadDocument
first_fault_of_state value = first (faults_of_document faults_of_state value)

-- The first fault of a value that is read as a feed.
unfoldable pub first_fault_of_feed : Data → Option BadDocument
first_fault_of_feed value = first (faults_of_document faults_of_feed value)
