-- Laws on the evaluations of a whole state.
use Rattle.std.specs.Prelude.{◌≡◌, ◌≢◌, ◌<◌, ◌↔◌, ℕ, List, All, map, filter, length, Bool, true, false, Option, Some, None}
use Rattle.std.specs.Prelude.{option_and_then, slice_get, if◌then◌else◌}
use Rattle.unl_documents.specs.declared.feature.Feature.{Feature}
use Rattle.unl_documents.specs.declared.segment.Segment.{Segment}
use Rattle.unl_documents.specs.declared.state.State.{State}
use Rattle.unl_documents.specs.Parameters.{AreRising}
use Rattle.unl_documents.specs.States.{IsValidState, name_key}
use Rattle.unl_documents.specs.Inline.{inlined}
use Rattle.unl_context.specs.Context.{Fields}
use Rattle.unl_strategies.specs.Moment.{Moment}
use Rattle.unl_dependencies.specs.Evaluation.{is_active_at, first_active, evaluation_where, feature_named}
use Rattle.unl_dependencies.specs.Evaluation.{feature_evaluation, evaluation_of}

-- No feature of the state has the name.
abbrev pub Lacks : State → List ℕ → Type 0
Lacks state name = All (λ f. f.name ≢ name) state.features

-- An evaluation is absent exactly if the state has no feature with the name.
abbrev pub NoneWhereLacking : Type 0
NoneWhereLacking = (state : State) (name : List ℕ) (context : Fields) (moment : Moment)
    → (evaluation_of state name context moment ≡ None) ↔ Lacks state name

-- Evaluating by name finds each feature of a valid state: the result is the evaluation of that feature.
abbrev pub EachIsFound : Type 0
EachIsFound = (state : State) (place : ℕ) (f : Feature) (context : Fields) (moment : Moment)
    → IsValidState state → slice_get state.features place ≡ Some f → evaluation_of state f.name context moment
    ≡ Some (feature_evaluation state f context moment)

-- The evaluation of a parent without dependencies depends on nothing in the state but the segments.
abbrev pub ParentEvaluatesAlone : Type 0
ParentEvaluatesAlone = (state : State) (parent : Feature) (context : Fields) (moment : Moment)
    → length parent.dependencies ≡ 0 → feature_evaluation state parent context moment
    ≡ evaluation_where true parent state.segments context moment

-- Inlining the segments of a state changes no evaluation by name. Inlining copies the constraints of each segment into the strategies that
-- refer to the segment.
abbrev pub InliningChangesNothing : Type 0
InliningChangesNothing = (state : State) (name : List ℕ) (context : Fields) (moment : Moment)
    → evaluation_of (inlined state) name context moment ≡ evaluation_of state name context moment

-- The strategy at the index is active, and none before it is.
pub record IsFirstActive (f : Feature) (segments : List Segment) (context : Fields) (moment : Moment) (place : ℕ) : Type 0 where
  pub active : is_active_at f segments context moment place ≡ true
  pub first : (earlier : ℕ) → earlier < place → is_active_at f segments context moment earlier ≡ false

-- `first_active` is the least index whose strategy is active.
abbrev pub FirstIsLeast : Type 0
FirstIsLeast = (f : Feature) (segments : List Segment) (context : Fields) (moment : Moment) (place : ℕ)
    → (first_active f segments context moment ≡ Some place) ↔ IsFirstActive f segments context moment place

-- `first_active` is absent exactly if no strategy is active.
abbrev pub NoneIsActive : Type 0
NoneIsActive = (f : Feature) (segments : List Segment) (context : Fields) (moment : Moment)
    → (first_active f segments context moment ≡ None) ↔ ((place : ℕ) → is_active_at f segments context moment place ≡ false)

-- The feature, if its project is visible.
abbrev pub if_seen : (List ℕ → Bool) → Feature → Option Feature
if_seen sees f = if sees f.project then Some f else None

-- Suppose that the names of the features are strictly ascending. Then looking up a name among the features of visible projects gives the
-- feature with that name if its project is visible, and none if it isn't or if no feature has the name.
abbrev pub SeenAmongAll : Type 0
SeenAmongAll = (sees : List ℕ → Bool) (name : List ℕ) (features : List Feature)
    → AreRising (map name_key features) → feature_named name (filter (λ f. sees f.project) features)
    ≡ option_and_then (if_seen sees) (feature_named name features)
