-- The JSON form of an explanation, and the line with that JSON. An explanation says why a feature is on or off. A parent is a
-- feature that the explained feature depends on.
use Rattle.std.specs.Prelude.{ℕ, List, ◌++◌, codes, Option, Some, None, option_map}
use Rattle.std.specs.Option.{option_map_or}
use Rattle.serde_json.specs.Data.{Data, boolean, no_members, null, object, put, string}
use Rattle.serde_json.specs.Written.{compact_text}
use Rattle.unl_dependencies.specs.declared.evaluation.Evaluation.{Evaluation}
use Rattle.unl_dependencies.specs.declared.evaluation.VariantAnswer.{VariantAnswer}
use Rattle.unl_documents.specs.declared.field.Field.TheVariants as field
use Rattle.unl_documents.specs.Writing.{count, list_data, payload_data, with, with_some}
use Rattle.unl_explain.specs.declared.reason.Origin.{Origin}
use Rattle.unl_explain.specs.declared.reason.Origin.TheVariants as origin
use Rattle.unl_explain.specs.declared.reason.ParentCause.{ParentCause}
use Rattle.unl_explain.specs.declared.reason.ParentCause.TheVariants as cause
use Rattle.unl_explain.specs.declared.reason.ParentReason.{ParentReason}
use Rattle.unl_explain.specs.declared.reason.Reason.{Reason}
use Rattle.unl_explain.specs.declared.reason.SegmentReason.{SegmentReason}
use Rattle.unl_explain.specs.declared.reason.StrategyReason.{StrategyReason}

-- The JSON form of the variant of an evaluation.
unfoldable pub variant_data : VariantAnswer → Data
variant_data v = object (
    with_some field.Payload (option_map payload_data v.payload) (
    with field.Enabled (boolean v.enabled) (
    with field.Name (string v.name)
    no_members)))

-- The JSON form of an evaluation.
unfoldable pub evaluation_data : Evaluation → Data
evaluation_data e = object (
    put (codes "on") (boolean e.on) (
    put (codes "variant") (variant_data e.variant)
    no_members))

-- The word for the status of a parent.
abbrev pub cause_text : ParentCause → List ℕ
cause_text cause.Absent = codes "absent"
cause_text cause.HasParents = codes "has-parents"
cause_text (cause.On variant) = codes "on"
cause_text cause.Off = codes "off"

-- The name of a parent's variant, if the parent is on.
abbrev pub parent_variant : ParentCause → Option (List ℕ)
parent_variant (cause.On variant) = Some variant
parent_variant cause.Absent = None
parent_variant cause.HasParents = None
parent_variant cause.Off = None

-- The JSON form of the result for a parent: its name, its status, its variant's name if it is on, and whether it satisfies the
-- dependency.
unfoldable pub parent_data : ParentReason → Data
parent_data p = object (
    with_some field.Variant (option_map string (parent_variant p.cause)) (
    put (codes "cause") (string (cause_text p.cause)) (
    with field.Feature (string p.feature) (
    put (codes "met") (boolean p.met)
    no_members))))

-- The JSON form of the result for a segment that a strategy refers to.
unfoldable pub segment_data : SegmentReason → Data
segment_data s = object (
    with field.Constraints (list_data boolean s.constraints) (
    put (codes "found") (boolean s.found) (
    with field.Id (count s.id)
    no_members)))

-- The JSON form of the result for a strategy.
unfoldable pub strategy_data : StrategyReason → Data
strategy_data s = object (
    put (codes "active") (boolean s.active) (
    with field.Constraints (list_data boolean s.constraints) (
    with field.Name (string s.name) (
    put (codes "rule") (boolean s.rule) (
    with field.Segments (list_data segment_data s.segments)
    no_members)))))

-- The word for the origin of the feature's variant: no variant, the first active strategy, or the feature's own variants.
abbrev pub origin_text : Origin → List ℕ
origin_text origin.NoVariant = codes "none"
origin_text origin.Strategy = codes "strategy"
origin_text origin.Own = codes "own"

-- The JSON form of the index of the first active strategy, or null if there is none.
abbrev pub first_data : Option ℕ → Data
first_data None = null
first_data (Some place) = count place

-- The JSON form of an explanation.
unfoldable pub reason_data : Reason → Data
reason_data r = object (
    with field.Enabled (boolean r.enabled) (
    put (codes "evaluation") (evaluation_data r.evaluation) (
    put (codes "first") (first_data r.first) (
    put (codes "parents") (list_data parent_data r.parents) (
    put (codes "source") (string (origin_text r.source)) (
    with field.Strategies (list_data strategy_data r.strategies)
    no_members))))))

-- The JSON form of an explanation, or null if the state lacks the feature.
unfoldable pub explanation_data : Option Reason → Data
explanation_data reason = option_map_or reason_data reason null

-- The line with the JSON text of an explanation, or with `null` if the state lacks the feature.
unfoldable pub explanation_line : Option Reason → List ℕ
explanation_line reason = compact_text (explanation_data reason) ++ codes "\n"
