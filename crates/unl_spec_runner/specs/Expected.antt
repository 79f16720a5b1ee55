-- Expected and actual results of tests, and their JSON form.
use Rattle.std.specs.Prelude.{ℕ, List, Bool, true, false, ◌&&◌, Option, Some, None, option_map}
use Rattle.std.specs.Bool.{beq}
use Rattle.std.specs.Str.{bytes_eq}
use Rattle.serde_json.specs.Data.{Data, boolean, string, object, no_members}
use Rattle.serde_json.specs.Written.{compact_text}
use Rattle.unl_dependencies.specs.declared.evaluation.Evaluation.{Evaluation}
use Rattle.unl_documents.specs.declared.field.Field.TheVariants as field
use Rattle.unl_documents.specs.declared.variant.Payload.{Payload}
use Rattle.unl_documents.specs.Writing.{with, with_some, payload_data}
use Rattle.unl_spec_runner.specs.declared.expected.Expected.{Expected}
use Rattle.unl_spec_runner.specs.declared.expected.Expected.TheVariants.{Result, Variant}
use Rattle.unl_spec_runner.specs.declared.expected.ExpectedVariant.{ExpectedVariant}

-- The actual variant of an evaluation, for a test that expects the variant `v`. Its `feature_enabled` is `None` if that of `v` is.
unfoldable pub variant_given : ExpectedVariant → Evaluation → ExpectedVariant
variant_given v e = record {
  name = e.variant.name;
  enabled = e.variant.enabled;
  payload = e.variant.payload;
  feature_enabled = option_map (λ _. e.on) v.feature_enabled;
}

-- The actual result of an evaluation, in the form of the expected result: whether the feature is on, or its variant.
unfoldable pub given_as : Expected → Evaluation → Expected
given_as (Result on) e = Result e.on
given_as (Variant v) e = Variant (variant_given v e)

-- Whether two optional values are both absent, or are both present and agree by the comparison `agree`.
abbrev pub options_agree : {T : Type 0} → (T → T → Bool) → Option T → Option T → Bool
options_agree agree None None = true
options_agree agree None (Some y) = false
options_agree agree (Some x) None = false
options_agree agree (Some x) (Some y) = agree x y

-- The payloads have the same type and the same value.
abbrev pub payloads_agree : Payload → Payload → Bool
payloads_agree p q = bytes_eq p.kind q.kind && bytes_eq p.value q.value

-- The variants agree in each part.
unfoldable pub variants_agree : ExpectedVariant → ExpectedVariant → Bool
variants_agree v w =
    bytes_eq v.name w.name && (beq v.enabled w.enabled
    && (options_agree payloads_agree v.payload w.payload && options_agree beq v.feature_enabled w.feature_enabled))

-- The actual result is the expected one.
unfoldable pub agrees : Expected → Expected → Bool
agrees (Result on) (Result given) = beq on given
agrees (Result on) (Variant w) = false
agrees (Variant v) (Result given) = false
agrees (Variant v) (Variant w) = variants_agree v w

-- The JSON form of an expected or actual variant. A payload or `feature_enabled` that is `None` has no key.
unfoldable pub variant_data : ExpectedVariant → Data
variant_data v = object (
    with_some field.Payload (option_map payload_data v.payload) (
    with field.Enabled (boolean v.enabled) (
    with_some field.FeatureEnabled (option_map boolean v.feature_enabled) (
    with field.Name (string v.name)
    no_members))))

-- The JSON form of an expected or actual result.
unfoldable pub expected_data : Expected → Data
expected_data (Result on) = boolean on
expected_data (Variant v) = variant_data v

-- The JSON text of an expected or actual result.
abbrev pub expected_text : Expected → List ℕ
expected_text e = compact_text (expected_data e)
