-- The body of the frontend endpoints: the toggles of a state, in the order of the features' names.
use Rattle.std.specs.Prelude.{ℕ, List, Bool, ◌||◌, filter_map, Option, Some, None, option_and_then, option_map, slice_get, if◌then◌else◌}
use Rattle.serde_json.specs.Data.{Data, boolean, string, array, object, no_members}
use Rattle.serde_json.specs.View.{items_of}
use Rattle.unl_context.specs.Context.{Fields}
use Rattle.unl_delta.specs.View.{view_of}
use Rattle.unl_dependencies.specs.declared.evaluation.Evaluation.{Evaluation}
use Rattle.unl_dependencies.specs.declared.evaluation.VariantAnswer.{VariantAnswer}
use Rattle.unl_dependencies.specs.Evaluation.{feature_evaluation}
use Rattle.unl_documents.specs.declared.feature.Feature.{Feature}
use Rattle.unl_documents.specs.declared.field.Field.TheVariants as field
use Rattle.unl_documents.specs.declared.state.State.{State}
use Rattle.unl_documents.specs.Writing.{with, with_some, payload_data}
use Rattle.unl_strategies.specs.Moment.{Moment}
use Rattle.unl_tokens.specs.Names.{sees}
use Rattle.unl_tokens.specs.declared.projects.Projects.{Projects}

-- The JSON of a variant. `on` says whether its feature is on.
unfoldable pub variant_data : Bool → VariantAnswer → Data
variant_data on v = object (
    with_some field.Payload (option_map payload_data v.payload) (
    with field.Enabled (boolean v.enabled) (
    with field.FeatureEnabled (boolean on) (
    with field.Name (string v.name)
    no_members))))

-- The JSON of a toggle: a feature and its evaluation, as a frontend client gets them.
unfoldable pub toggle_data : Feature → Evaluation → Data
toggle_data f e = object (
    with field.Enabled (boolean e.on) (
    with field.ImpressionData (boolean f.impression) (
    with field.Name (string f.name) (
    with field.Variant (variant_data e.on e.variant)
    no_members))))

-- The toggle, if all toggles are asked for or the feature is on.
abbrev pub toggle_if : Bool → Feature → Evaluation → Option Data
toggle_if all f e = if all || e.on then Some (toggle_data f e) else None

-- As `toggle_if`, with the feature's evaluation over a state.
unfoldable pub toggle_of : State → Bool → Fields → Moment → Feature → Option Data
toggle_of state all context moment f = toggle_if all f (feature_evaluation state f context moment)

-- The body with these toggles: `{"toggles":[..]}`.
unfoldable pub written_toggles : List Data → Data
written_toggles toggles = object (
    with field.Toggles (array (items_of toggles))
    no_members)

-- The body for a state: all toggles if `all`, otherwise only those that are on.
unfoldable pub toggles_data : State → Bool → Fields → Moment → Data
toggles_data state all context moment = written_toggles (filter_map (toggle_of state all context moment) state.features)

-- A query for the toggles of a state's visible features (those whose project is in `projects`): all of these toggles, or only
-- those that are on.
pub record ToggleQuery : Type 0 where
  pub state : State
  pub projects : Projects
  pub all : Bool
  pub context : Fields
  pub moment : Moment

-- The visible part of the query's state: the visible features, and all segments.
abbrev pub visible : ToggleQuery → State
visible query = view_of (sees query.projects) query.state

-- The toggle of a feature, evaluated over the visible part, if the query asks for all toggles or the feature is on. The feature need
-- not be visible.
abbrev pub toggle_for : ToggleQuery → Feature → Option Data
toggle_for query f = toggle_of (visible query) query.all query.context query.moment f

-- The toggle of a feature, if the feature is visible and the query asks for the toggle.
abbrev pub toggle_if_seen : ToggleQuery → Feature → Option Data
toggle_if_seen query f = if sees query.projects f.project then toggle_for query f else None

-- As `toggle_for`, for the feature at a position; none if there is no such feature.
abbrev pub toggle_at : ToggleQuery → ℕ → Option Data
toggle_at query place = option_and_then (toggle_for query) (slice_get query.state.features place)

-- Those toggles of the visible features that the query asks for, in the order of the features.
abbrev pub toggles_for : ToggleQuery → List Data
toggles_for query = filter_map (toggle_for query) (visible query).features

-- The body that a query asks for.
abbrev pub body_for : ToggleQuery → Data
body_for query = toggles_data (visible query) query.all query.context query.moment
