-- The JSON form of an explanation contains no floating-point number.
use Rattle.std.proofs.Common.{◌≡◌, ℕ, List, [], ◌∷◌, Bool, false, map, Option, Some, None, refl}
use Rattle.serde_json.specs.Data.{Data, boolean}
use Rattle.serde_json.specs.View.{items_of}
use Rattle.serde_json.specs.Written.{has_float, items_have_float}
use Rattle.unl_dependencies.specs.declared.evaluation.Evaluation.{Evaluation}
use Rattle.unl_documents.specs.declared.variant.Payload.{Payload}
use Rattle.unl_documents.specs.Writing.{payload_data}
use Rattle.unl_explain.specs.declared.reason.ParentCause.{ParentCause}
use Rattle.unl_explain.specs.declared.reason.ParentCause.TheVariants as cause
use Rattle.unl_explain.specs.declared.reason.ParentReason.{ParentReason}
use Rattle.unl_explain.specs.declared.reason.Reason.{Reason}
use Rattle.unl_explain.specs.declared.reason.SegmentReason.{SegmentReason}
use Rattle.unl_explain.specs.declared.reason.StrategyReason.{StrategyReason}
use Rattle.unl_explain.specs.Line.{evaluation_data, explanation_data, first_data, parent_data, reason_data, segment_data, strategy_data, variant_data}

-- The JSON form of a list contains no floating-point number if those of its items contain none.
no_float_in : {T : Type 0} (written : T → Data) → ((x : T) → has_float (written x) ≡ false) → (xs : List T) → items_have_float (items_of (map written xs)) ≡ false
no_float_in written none [] = refl
no_float_in written none (x ∷ xs) = rw (none x, no_float_in written none xs) refl

truth_plain : (b : Bool) → has_float (boolean b) ≡ false
truth_plain b = refl

variant_parts : (name : List ℕ) (enabled : Bool) (payload : Option Payload)
    → has_float (variant_data (record { name = name; enabled = enabled; payload = payload })) ≡ false
unfolding variant_data payload_data
variant_parts name enabled None = refl
variant_parts name enabled (Some p) = refl

evaluation_plain : (e : Evaluation) → has_float (evaluation_data e) ≡ false
unfolding evaluation_data
evaluation_plain e = rw (variant_parts e.variant.name e.variant.enabled e.variant.payload) refl

parent_parts : (feature : List ℕ) (why : ParentCause) (met : Bool) → has_float (parent_data (record { feature = feature; cause = why; met = met })) ≡ false
unfolding parent_data
parent_parts feature cause.Absent met = refl
parent_parts feature cause.HasParents met = refl
parent_parts feature (cause.On variant) met = refl
parent_parts feature cause.Off met = refl

parent_plain : (p : ParentReason) → has_float (parent_data p) ≡ false
parent_plain p = parent_parts p.feature p.cause p.met

segment_plain : (s : SegmentReason) → has_float (segment_data s) ≡ false
unfolding segment_data
segment_plain s = rw (no_float_in boolean truth_plain s.constraints) refl

strategy_plain : (s : StrategyReason) → has_float (strategy_data s) ≡ false
unfolding strategy_data
strategy_plain s = rw (no_float_in boolean truth_plain s.constraints, no_float_in segment_data segment_plain s.segments) refl

first_plain : (first : Option ℕ) → has_float (first_data first) ≡ false
first_plain None = refl
first_plain (Some place) = refl

reason_plain : (r : Reason) → has_float (reason_data r) ≡ false
unfolding reason_data
reason_plain r =
    rw (
      evaluation_plain r.evaluation,
      first_plain r.first,
      no_float_in parent_data parent_plain r.parents,
      no_float_in strategy_data strategy_plain r.strategies,
    ) refl

-- The JSON form of an explanation, or null if there is none, contains no floating-point number.
pub explanation_plain : (reason : Option Reason) → has_float (explanation_data reason) ≡ false
unfolding explanation_data
explanation_plain None = refl
explanation_plain (Some r) = reason_plain r
