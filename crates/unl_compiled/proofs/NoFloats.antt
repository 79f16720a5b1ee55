-- No toggle has a floating-point number.
use Rattle.std.proofs.Common.{◌≡◌, ◌||◌, ℕ, Bool, true, false, cond, List, [], ◌∷◌, Option, Some, None, refl}
use Rattle.std.specs.Prelude.{IfSome, filter_map}
use Rattle.std.specs.List.{cons_option}
use Rattle.serde_json.specs.Data.{Data}
use Rattle.serde_json.specs.View.{items_of}
use Rattle.serde_json.specs.Written.{has_float, items_have_float}
use Rattle.unl_compiled.specs.Toggles.{variant_data, toggle_data, toggle_of, toggles_data, written_toggles}
use Rattle.unl_context.specs.Context.{Fields}
use Rattle.unl_dependencies.specs.declared.evaluation.Evaluation.{Evaluation}
use Rattle.unl_dependencies.specs.declared.evaluation.VariantAnswer.{VariantAnswer}
use Rattle.unl_dependencies.specs.Evaluation.{feature_evaluation}
use Rattle.unl_documents.specs.declared.feature.Feature.{Feature}
use Rattle.unl_documents.specs.declared.state.State.{State}
use Rattle.unl_documents.specs.declared.variant.Payload.{Payload}
use Rattle.unl_documents.specs.Writing.{payload_data}
use Rattle.unl_strategies.specs.Moment.{Moment}

parts : (on : Bool) (name : List ℕ) (enabled : Bool) (payload : Option Payload) → has_float (variant_data on (record { name = name; enabled = enabled; payload = payload })) ≡ false
unfolding variant_data payload_data
parts on name enabled None = refl
parts on name enabled (Some p) = refl

no_float_variant : (on : Bool) (v : VariantAnswer) → has_float (variant_data on v) ≡ false
no_float_variant on v = parts on v.name v.enabled v.payload

no_float_toggle : (f : Feature) (e : Evaluation) → has_float (toggle_data f e) ≡ false
unfolding toggle_data
no_float_toggle f e = rw (no_float_variant e.on e.variant) refl

IsPlain : Data → Type 0
IsPlain d = has_float d ≡ false

if_plain : (state : State) (all : Bool) (context : Fields) (moment : Moment) (f : Feature) → IfSome (toggle_of state all context moment f) IsPlain
unfolding toggle_of IsPlain
if_plain state all context moment f =
    let e : Evaluation = feature_evaluation state f context moment in
    elim (all || e.on) as (λ t. IfSome (cond t (Some (toggle_data f e)) None) IsPlain) [ true ↦ no_float_toggle f e | false ↦ tt ]

first_plain : (o : Option Data) (ds : List Data) → IfSome o IsPlain → items_have_float (items_of ds) ≡ false → items_have_float (items_of (cons_option o ds)) ≡ false
unfolding IsPlain
first_plain None ds plain others = others
first_plain (Some d) ds plain others = rw (plain, others) refl

all_plain : (toggle : Feature → Option Data) → ((f : Feature) → IfSome (toggle f) IsPlain) → (fs : List Feature) → items_have_float (items_of (filter_map toggle fs)) ≡ false
all_plain toggle plain [] = refl
all_plain toggle plain (f ∷ fs) = first_plain (toggle f) (filter_map toggle fs) (plain f) (all_plain toggle plain fs)

pub no_float_toggles : (state : State) (all : Bool) (context : Fields) (moment : Moment) → has_float (toggles_data state all context moment) ≡ false
unfolding toggles_data written_toggles
no_float_toggles state all context moment = rw (all_plain (toggle_of state all context moment) (if_plain state all context moment) state.features) refl
