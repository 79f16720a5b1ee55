-- The JSON tokens of toggles.
use Rattle.std.proofs.Common.{◌≡◌, ℕ, Bool, List, [], ◌∷◌, ◌++◌, Option, Some, None, option_map, refl, ap, ◌∙◌, append_assoc}
use Rattle.std.specs.Prelude.{filter_map}
use Rattle.json.specs.Token.{begin_object, end_object, begin_array, end_array, key}
use Rattle.json.specs.Tree.{items_tokens}
use Rattle.serde_json.specs.Data.{boolean, string}
use Rattle.serde_json.specs.View.{items_of}
use Rattle.serde_json.specs.Written.{items_outline}
use Rattle.unl_compiled.specs.Toggles.{variant_data, toggle_of, toggles_data, written_toggles}
use Rattle.unl_context.specs.Context.{Fields}
use Rattle.unl_dependencies.specs.declared.evaluation.VariantAnswer.{VariantAnswer}
use Rattle.unl_documents.specs.declared.field.Field.TheVariants as field
use Rattle.unl_documents.specs.declared.state.State.{State}
use Rattle.unl_documents.specs.declared.variant.Payload.{Payload}
use Rattle.unl_documents.specs.Key.{key_of}
use Rattle.unl_documents.specs.Tokens.{tokens_of, all_tokens, tokens_at, tokens_at_some}
use Rattle.unl_documents.specs.Writing.{payload_data}
use Rattle.unl_documents.proofs.Tokens.{items_tokens_of}
use Rattle.unl_strategies.specs.Moment.{Moment}

variant_parts : (on : Bool) (name : List ℕ) (enabled : Bool) (payload : Option Payload)
    → tokens_of (variant_data on (record { name = name; enabled = enabled; payload = payload }))
    ≡ begin_object ∷ (tokens_at field.Enabled (boolean enabled) ++ (tokens_at field.FeatureEnabled (boolean on) ++ (tokens_at field.Name (string name)
    ++ (tokens_at_some field.Payload (option_map payload_data payload) ++ end_object ∷ []))))
unfolding variant_data
variant_parts on name enabled None = refl
variant_parts on name enabled (Some p) = refl

pub variant_tokens : (on : Bool) (v : VariantAnswer)
    → tokens_of (variant_data on v)
    ≡ begin_object ∷ (tokens_at field.Enabled (boolean v.enabled) ++ (tokens_at field.FeatureEnabled (boolean on) ++ (tokens_at field.Name (string v.name)
    ++ (tokens_at_some field.Payload (option_map payload_data v.payload) ++ end_object ∷ []))))
variant_tokens on v = variant_parts on v.name v.enabled v.payload

pub toggles_tokens : (state : State) (all : Bool) (context : Fields) (moment : Moment)
    → tokens_of (toggles_data state all context moment)
    ≡ begin_object ∷ key (key_of field.Toggles) ∷ begin_array ∷ (all_tokens (filter_map (toggle_of state all context moment) state.features) ++ end_array ∷ end_object ∷ [])
unfolding toggles_data written_toggles
toggles_tokens state all context moment =
    let ds = filter_map (toggle_of state all context moment) state.features in
    let items : items_tokens (items_outline (items_of ds)) ++ end_object ∷ [] ≡ all_tokens ds ++ end_array ∷ end_object ∷ [] =
    ap (λ ts. ts ++ end_object ∷ []) (items_tokens_of ds) ∙ append_assoc (all_tokens ds) (end_array ∷ []) (end_object ∷ []) in
    ap (λ ts. begin_object ∷ key (key_of field.Toggles) ∷ begin_array ∷ ts) items
