-- Proofs of the laws on explanations: the evaluation in an explanation is the feature's, and the results for the parts determine
-- whether the feature is on and which strategies are active.
use Rattle.std.proofs.Common.{◌≡◌, ℕ, ◌+◌, suc, Bool, true, false, cond, List, [], ◌∷◌, length, map, Option, Some, None, refl, ap, ◌∙◌}
use Rattle.std.specs.Prelude.{All, IfSome, ◌&&◌, ◌||◌, ◌==◌, is_some, option_map}
use Rattle.std.specs.List.{list_all}
use Rattle.std.specs.Option.{option_map_or}
use Rattle.std.proofs.lemmas.List.Elements.{All-nil, All-cons}
use Rattle.unl_documents.specs.declared.constraint.Constraint.{Constraint}
use Rattle.unl_documents.specs.declared.dependency.Dependency.{Dependency}
use Rattle.unl_documents.specs.declared.feature.Feature.{Feature}
use Rattle.unl_documents.specs.declared.segment.Segment.{Segment}
use Rattle.unl_documents.specs.declared.state.State.{State}
use Rattle.unl_documents.specs.declared.strategy.Strategy.{Strategy}
use Rattle.unl_documents.specs.Inline.{segment_with}
use Rattle.unl_context.specs.Context.{Fields}
use Rattle.unl_constraints.specs.Constraint.{constraint_holds, all_hold}
use Rattle.unl_strategies.specs.Moment.{Moment}
use Rattle.unl_strategies.specs.Strategy.{is_active, rule_holds}
use Rattle.unl_strategies.specs.Strategy.{is_segment_met}
use Rattle.unl_dependencies.specs.Evaluation.{dependencies_met, evaluation_of, evaluation_where, feature_evaluation, feature_named, first_active, is_met, is_on, off, on_with, variant_of_feature}
use Rattle.unl_dependencies.specs.declared.evaluation.Evaluation.{Evaluation}
use Rattle.unl_explain.specs.declared.reason.ParentReason.{ParentReason}
use Rattle.unl_explain.specs.declared.reason.StrategyReason.{StrategyReason}
use Rattle.unl_explain.specs.Laws.{OnIsExplained, ActiveIsExplained, EvaluationIsExplained, all_true, is_active_by_parts, is_on_by_parts, is_found_and_holds}
use Rattle.unl_explain.specs.Reasons.{found_reason, missing_reason, parent_reason, reason_of, reasons_from, reasons_of, segment_reason, strategy_reason, truths_of}

-- ---- lists

all_mapped : {A B : Type 0} (q : A → Bool) (p : B → Bool) (f : A → B) → ((x : A) → q x ≡ p (f x)) → (xs : List A) → list_all q xs ≡ list_all p (map f xs)
all_mapped q p f same [] = refl
all_mapped q p f same (x ∷ xs) =
    let first = same x in
    let others = all_mapped q p f same xs in
    λ i. first i && others i

-- ---- strategies

same_truths : (constraints : List Constraint) (context : Fields) (now : ℕ) → all_hold constraints context now ≡ all_true (truths_of constraints context now)
unfolding all_hold truths_of
same_truths constraints context now = all_mapped (λ (c : Constraint). constraint_holds c context now) (λ (b : Bool). b) (λ (c : Constraint). constraint_holds c context now) (λ c. refl) constraints

where_found : (context : Fields) (now id : ℕ) (found : Option Segment)
    → option_map_or (λ (s : Segment). all_hold s.constraints context now) found false ≡ is_found_and_holds (option_map_or (found_reason context now id) found (missing_reason id))
where_found context now id None = refl
where_found context now id (Some s) = same_truths s.constraints context now

same_segment : (segments : List Segment) (context : Fields) (now id : ℕ) → is_segment_met segments context now id ≡ is_found_and_holds (segment_reason segments context now id)
unfolding is_segment_met segment_reason
same_segment segments context now id = where_found context now id (segment_with id segments)

same_segments : (segments : List Segment) (context : Fields) (now : ℕ) (ids : List ℕ) → list_all (is_segment_met segments context now) ids ≡ list_all is_found_and_holds (map (segment_reason segments context now) ids)
same_segments segments context now ids = all_mapped (is_segment_met segments context now) is_found_and_holds (segment_reason segments context now) (same_segment segments context now) ids

same_active : (feature : List ℕ) (segments : List Segment) (context : Fields) (moment : Moment) (place : ℕ) (s : Strategy)
    → (strategy_reason feature segments context moment place s).active ≡ is_active_by_parts (strategy_reason feature segments context moment place s)
unfolding is_active strategy_reason
same_active feature segments context moment place s =
    let own = same_truths s.constraints context moment.now in
    let named = same_segments segments context moment.now s.segments in
    λ i. own i && (named i && rule_holds s feature place context moment)

each_active : (place : ℕ) (ss : List Strategy) (feature : List ℕ) (segments : List Segment) (context : Fields) (moment : Moment)
    → All (λ (s : StrategyReason). s.active ≡ is_active_by_parts s) (reasons_from place ss feature segments context moment)
each_active place [] feature segments context moment = All-nil (λ (s : StrategyReason). s.active ≡ is_active_by_parts s)
each_active place (s ∷ ss) feature segments context moment =
    All-cons (λ (s : StrategyReason). s.active ≡ is_active_by_parts s) (strategy_reason feature segments context moment place s) (reasons_from (place + 1) ss feature segments context moment)
    (same_active feature segments context moment place s) (each_active (place + 1) ss feature segments context moment)

active_of : (state : State) (context : Fields) (moment : Moment) (found : Option Feature)
    → IfSome (option_map (reason_of state context moment) found) (λ r. All (λ s. s.active ≡ is_active_by_parts s) r.strategies)
unfolding reason_of
active_of state context moment None = tt
active_of state context moment (Some f) = each_active 0 f.strategies f.name state.segments context moment

pub active_is_explained : ActiveIsExplained
unfolding reasons_of
active_is_explained state name context moment = active_of state context moment (feature_named name state.features)

-- ---- features

same_met : (state : State) (context : Fields) (moment : Moment) (d : Dependency) → is_met state context moment d ≡ (parent_reason state context moment d).met
unfolding parent_reason
same_met state context moment d = refl

same_parents : (state : State) (f : Feature) (context : Fields) (moment : Moment)
    → dependencies_met f.dependencies state context moment ≡ list_all (λ (p : ParentReason). p.met) (map (parent_reason state context moment) f.dependencies)
unfolding dependencies_met
same_parents state f context moment = all_mapped (is_met state context moment) (λ (p : ParentReason). p.met) (parent_reason state context moment) (same_met state context moment) f.dependencies

same_count : (place : ℕ) (ss : List Strategy) (feature : List ℕ) (segments : List Segment) (context : Fields) (moment : Moment)
    → length ss ≡ length (reasons_from place ss feature segments context moment)
same_count place [] feature segments context moment = refl
same_count place (s ∷ ss) feature segments context moment = ap suc (same_count (place + 1) ss feature segments context moment)

on_where : (b : Bool) (e : Evaluation) → e.on ≡ true → (cond b e off).on ≡ b
on_where true e on = on
on_where false e on = refl

on_of_feature : (state : State) (context : Fields) (moment : Moment) (f : Feature)
    → (reason_of state context moment f).evaluation.on ≡ is_on_by_parts (reason_of state context moment f)
unfolding reason_of feature_evaluation evaluation_where is_on
on_of_feature state context moment f =
    let met = same_parents state f context moment in
    let count = same_count 0 f.strategies f.name state.segments context moment in
    let first = first_active f state.segments context moment in
    let parts : (f.enabled && (dependencies_met f.dependencies state context moment && (length f.strategies == 0 || is_some first)))
    ≡ (f.enabled && (list_all (λ (p : ParentReason). p.met) (map (parent_reason state context moment) f.dependencies) && (length (reasons_from 0 f.strategies f.name state.segments context moment) == 0 || is_some first)))
    = λ i. f.enabled && (met i && (count i == 0 || is_some first)) in
    on_where (f.enabled && (dependencies_met f.dependencies state context moment && (length f.strategies == 0 || is_some first))) (on_with (variant_of_feature f context moment first)) refl ∙ parts

on_found : (state : State) (context : Fields) (moment : Moment) (found : Option Feature)
    → IfSome (option_map (reason_of state context moment) found) (λ r. r.evaluation.on ≡ is_on_by_parts r)
on_found state context moment None = tt
on_found state context moment (Some f) = on_of_feature state context moment f

pub on_is_explained : OnIsExplained
unfolding reasons_of
on_is_explained state name context moment = on_found state context moment (feature_named name state.features)

-- ---- the evaluation

evaluation_found : (state : State) (context : Fields) (moment : Moment) (found : Option Feature)
    → option_map (λ r. r.evaluation) (option_map (reason_of state context moment) found) ≡ option_map (λ f. feature_evaluation state f context moment) found
unfolding reason_of
evaluation_found state context moment None = refl
evaluation_found state context moment (Some f) = refl

pub evaluation_is_explained : EvaluationIsExplained
unfolding reasons_of evaluation_of
evaluation_is_explained state name context moment = evaluation_found state context moment (feature_named name state.features)
