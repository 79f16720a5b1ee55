-- Inlining of segments changes no evaluation.
use Rattle.std.proofs.Common.{◌≡◌, ℕ, ◌+◌, Bool, true, false, cond, List, [], ◌∷◌, length, map, Option, Some, None, refl, ap, ◌∙◌}
use Rattle.std.specs.Prelude.{◌&&◌, ◌||◌, ◌==◌, is_some, option_map, option_and_then, slice_get}
use Rattle.std.specs.Option.{option_map_or, option_or}
use Rattle.std.specs.Str.{bytes_eq}
use Rattle.std.proofs.lemmas.List.{length-map}
use Rattle.std.proofs.lemmas.Option.{slice_get-map}
use Rattle.unl_documents.specs.declared.dependency.Dependency.{Dependency}
use Rattle.unl_documents.specs.declared.feature.Feature.{Feature}
use Rattle.unl_documents.specs.declared.segment.Segment.{Segment}
use Rattle.unl_documents.specs.declared.state.State.{State}
use Rattle.unl_documents.specs.declared.strategy.Strategy.{Strategy}
use Rattle.unl_documents.specs.Inline.{inlined_strategy, inlined_feature, inlined}
use Rattle.unl_context.specs.Context.{Fields}
use Rattle.unl_strategies.specs.declared.moment.Mark.TheVariants as mark
use Rattle.unl_strategies.specs.Moment.{Moment}
use Rattle.unl_strategies.proofs.Inlined.{same_active}
use Rattle.unl_dependencies.specs.Evaluation.{active_from, first_active, is_on, random_of, group_of, variant_in, strategy_variant, own_variant, variant_of_feature, off, on_with, evaluation_where, feature_named, agrees, is_met_by, is_met, dependencies_met, feature_evaluation, evaluation_of}

-- ---- strategies

same_from : (segments : List Segment) (place : ℕ) (ss : List Strategy) (feature : List ℕ) (context : Fields) (moment : Moment) → active_from place (map (inlined_strategy segments) ss) feature [] context moment ≡ active_from place ss feature segments context moment
same_from segments place [] feature context moment = refl
same_from segments place (s ∷ ss) feature context moment =
    let first = same_active segments s feature place context moment in
    let others = same_from segments (place + 1) ss feature context moment in
    λ i. cond (first i) (Some place) (others i)

-- ---- features

same_first : (segments : List Segment) (f : Feature) (context : Fields) (moment : Moment) → first_active (inlined_feature segments f) [] context moment ≡ first_active f segments context moment
unfolding inlined_feature first_active
same_first segments f context moment = same_from segments 0 f.strategies f.name context moment

same_on : (met : Bool) (segments : List Segment) (f : Feature) (context : Fields) (moment : Moment) → is_on met (inlined_feature segments f) [] context moment ≡ is_on met f segments context moment
unfolding inlined_feature is_on
same_on met segments f context moment =
    let many = length-map f.strategies (inlined_strategy segments) in
    let first = same_first segments f context moment in
    λ i. f.enabled && (met && (many i == 0 || is_some (first i)))

after_map : {A B : Type 0} (g : A → A) (h k : A → Option B) (o : Option A) → ((x : A) → h (g x) ≡ k x) → option_and_then h (option_map g o) ≡ option_and_then k o
after_map g h k None same = refl
after_map g h k (Some x) same = same x

same_variant : (segments : List Segment) (f : Feature) (context : Fields) (moment : Moment) (place : ℕ) → strategy_variant (inlined_feature segments f) context moment place ≡ strategy_variant f context moment place
unfolding inlined_feature inlined_strategy strategy_variant
same_variant segments f context moment place =
    let chosen = λ (s : Strategy). variant_in (group_of f s) s.variants context (random_of f (mark.Strategy place) moment) in
    ap (option_and_then chosen) (slice_get-map (inlined_strategy segments) f.strategies place) ∙ after_map (inlined_strategy segments) chosen chosen (slice_get f.strategies place) (λ s. refl)

same_own : (segments : List Segment) (f : Feature) (context : Fields) (moment : Moment) → own_variant (inlined_feature segments f) context moment ≡ own_variant f context moment
unfolding inlined_feature own_variant
same_own segments f context moment = refl

same_variant_of : (segments : List Segment) (f : Feature) (context : Fields) (moment : Moment) (first : Option ℕ) → variant_of_feature (inlined_feature segments f) context moment first ≡ variant_of_feature f context moment first
unfolding variant_of_feature
same_variant_of segments f context moment None = same_own segments f context moment
same_variant_of segments f context moment (Some place) =
    let here = same_variant segments f context moment place in
    let own = same_own segments f context moment in
    λ i. option_or (here i) (own i)

same_where : (met : Bool) (segments : List Segment) (f : Feature) (context : Fields) (moment : Moment) → evaluation_where met (inlined_feature segments f) [] context moment ≡ evaluation_where met f segments context moment
unfolding evaluation_where
same_where met segments f context moment =
    let is = same_on met segments f context moment in
    let variant = same_variant_of segments f context moment (first_active (inlined_feature segments f) [] context moment) ∙ ap (variant_of_feature f context moment) (same_first segments f context moment) in
    λ i. cond (is i) (on_with (variant i)) off

-- ---- states

moved : (g : Feature → Feature) (b : Bool) (x : Feature) (rest : Option Feature) → cond b (Some (g x)) (option_map g rest) ≡ option_map g (cond b (Some x) rest)
moved g true x rest = refl
moved g false x rest = refl

same_found : (segments : List Segment) (name : List ℕ) (fs : List Feature) → feature_named name (map (inlined_feature segments) fs) ≡ option_map (inlined_feature segments) (feature_named name fs)
unfolding inlined_feature
same_found segments name [] = refl
same_found segments name (x ∷ xs) =
    ap (λ rest. cond (bytes_eq x.name name) (Some (inlined_feature segments x)) rest) (same_found segments name xs) ∙ moved (inlined_feature segments) (bytes_eq x.name name) x (feature_named name xs)

same_met_by : (segments : List Segment) (context : Fields) (moment : Moment) (d : Dependency) (parent : Feature) → is_met_by [] context moment d (inlined_feature segments parent) ≡ is_met_by segments context moment d parent
unfolding inlined_feature is_met_by
same_met_by segments context moment d parent =
    ap (λ e. length parent.dependencies == 0 && agrees d e) (same_where true segments parent context moment)

met_where_found : (segments : List Segment) (context : Fields) (moment : Moment) (d : Dependency) (found : Option Feature)
    → option_map_or (is_met_by [] context moment d) (option_map (inlined_feature segments) found) false ≡ option_map_or (is_met_by segments context moment d) found false
met_where_found segments context moment d None = refl
met_where_found segments context moment d (Some parent) = same_met_by segments context moment d parent

same_met : (state : State) (context : Fields) (moment : Moment) (d : Dependency) → is_met (inlined state) context moment d ≡ is_met state context moment d
unfolding inlined is_met
same_met state context moment d =
    ap (λ found. option_map_or (is_met_by [] context moment d) found false) (same_found state.segments d.feature state.features) ∙ met_where_found state.segments context moment d (feature_named d.feature state.features)

same_dependencies : (ds : List Dependency) (state : State) (context : Fields) (moment : Moment) → dependencies_met ds (inlined state) context moment ≡ dependencies_met ds state context moment
unfolding dependencies_met
same_dependencies [] state context moment = refl
same_dependencies (d ∷ ds) state context moment =
    let first = same_met state context moment d in
    let others = same_dependencies ds state context moment in
    λ i. first i && others i

same_feature : (state : State) (f : Feature) (context : Fields) (moment : Moment) → feature_evaluation (inlined state) (inlined_feature state.segments f) context moment ≡ feature_evaluation state f context moment
unfolding inlined inlined_feature feature_evaluation
same_feature state f context moment =
    ap (λ met. evaluation_where met (inlined_feature state.segments f) [] context moment) (same_dependencies f.dependencies state context moment) ∙ same_where (dependencies_met f.dependencies state context moment) state.segments f context moment

where_found : (state : State) (context : Fields) (moment : Moment) (found : Option Feature)
    → option_map (λ f. feature_evaluation (inlined state) f context moment) (option_map (inlined_feature state.segments) found) ≡ option_map (λ f. feature_evaluation state f context moment) found
where_found state context moment None = refl
where_found state context moment (Some f) = ap Some (same_feature state f context moment)

pub same_evaluation : (state : State) (name : List ℕ) (context : Fields) (moment : Moment) → evaluation_of (inlined state) name context moment ≡ evaluation_of state name context moment
unfolding inlined evaluation_of
same_evaluation state name context moment =
    ap (option_map (λ f. feature_evaluation (inlined state) f context moment)) (same_found state.segments name state.features) ∙ where_found state context moment (feature_named name state.features)
