-- Laws about explanations. An explanation says why a feature is on or off: it has the feature's evaluation and the results for the
-- parts of that evaluation. The laws relate these results to the evaluation.
use Rattle.std.specs.Prelude.{◌≡◌, ℕ, List, All, IfSome, length, Bool, ◌&&◌, ◌||◌, ◌==◌, is_some, option_map}
use Rattle.std.specs.List.{list_all}
use Rattle.unl_documents.specs.declared.state.State.{State}
use Rattle.unl_context.specs.Context.{Fields}
use Rattle.unl_strategies.specs.Moment.{Moment}
use Rattle.unl_dependencies.specs.Evaluation.{evaluation_of}
use Rattle.unl_explain.specs.declared.reason.Reason.{Reason}
use Rattle.unl_explain.specs.declared.reason.SegmentReason.{SegmentReason}
use Rattle.unl_explain.specs.declared.reason.StrategyReason.{StrategyReason}
use Rattle.unl_explain.specs.Reasons.{reasons_of}

-- The evaluation in an explanation is the feature's evaluation, and there is an explanation if and only if there is an evaluation.
abbrev pub EvaluationIsExplained : Type 0
EvaluationIsExplained = (state : State) (name : List ℕ) (context : Fields) (moment : Moment)
    → option_map (λ r. r.evaluation) (reasons_of state name context moment) ≡ evaluation_of state name context moment

-- All of the truth values are true.
abbrev pub all_true : List Bool → Bool
all_true truths = list_all (λ b. b) truths

-- By the results in the explanation, the feature is on: it is enabled, each of its dependencies is met, and it has an active
-- strategy or no strategies.
abbrev pub is_on_by_parts : Reason → Bool
is_on_by_parts r = r.enabled && (list_all (λ p. p.met) r.parents && (length r.strategies == 0 || is_some r.first))

-- The segment is found, and all of its constraints hold.
abbrev pub is_found_and_holds : SegmentReason → Bool
is_found_and_holds s = s.found && all_true s.constraints

-- By the results for a strategy, the strategy is active: all of its constraints hold, each of its segments is found and all
-- constraints of that segment hold, and the strategy's own rule holds.
abbrev pub is_active_by_parts : StrategyReason → Bool
is_active_by_parts s = all_true s.constraints && (list_all is_found_and_holds s.segments && s.rule)

-- In each explanation, the evaluation says that the feature is on if and only if the feature is on by the results in the explanation.
abbrev pub OnIsExplained : Type 0
OnIsExplained = (state : State) (name : List ℕ) (context : Fields) (moment : Moment)
    → IfSome (reasons_of state name context moment) (λ r. r.evaluation.on ≡ is_on_by_parts r)

-- In each explanation, each strategy is active if and only if it is active by the results for the strategy.
abbrev pub ActiveIsExplained : Type 0
ActiveIsExplained = (state : State) (name : List ℕ) (context : Fields) (moment : Moment)
    → IfSome (reasons_of state name context moment) (λ r. All (λ s. s.active ≡ is_active_by_parts s) r.strategies)
