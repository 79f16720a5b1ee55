-- The explanation of why a feature is on or off for a context at a moment (a time, a random word and a host name): the evaluation of
-- the feature, and the results for the parts of the evaluation, computed with the same definitions. A parent is a feature that the
-- explained feature depends on.
use Rattle.std.specs.Prelude.{ℕ, ◌+◌, List, [], ◌∷◌, map, length, Bool, true, false, ◌==◌, Option, is_some, option_map, option_and_then}
use Rattle.std.specs.Prelude.{if◌then◌else◌}
use Rattle.std.specs.Option.{option_map_or}
use Rattle.unl_documents.specs.declared.constraint.Constraint.{Constraint}
use Rattle.unl_documents.specs.declared.dependency.Dependency.{Dependency}
use Rattle.unl_documents.specs.declared.feature.Feature.{Feature}
use Rattle.unl_documents.specs.declared.segment.Segment.{Segment}
use Rattle.unl_documents.specs.declared.state.State.{State}
use Rattle.unl_documents.specs.declared.strategy.Strategy.{Strategy}
use Rattle.unl_documents.specs.Inline.{segment_with}
use Rattle.unl_context.specs.Context.{Fields}
use Rattle.unl_constraints.specs.Constraint.{constraint_holds}
use Rattle.unl_strategies.specs.Moment.{Moment}
use Rattle.unl_strategies.specs.Strategy.{is_active, rule_holds}
use Rattle.unl_dependencies.specs.declared.evaluation.Evaluation.{Evaluation}
use Rattle.unl_dependencies.specs.Evaluation.{evaluation_where, feature_evaluation, feature_named, first_active, is_met, own_variant}
use Rattle.unl_dependencies.specs.Evaluation.{strategy_variant}
use Rattle.unl_explain.specs.declared.reason.Origin.{Origin}
use Rattle.unl_explain.specs.declared.reason.Origin.TheVariants as origin
use Rattle.unl_explain.specs.declared.reason.ParentCause.{ParentCause}
use Rattle.unl_explain.specs.declared.reason.ParentCause.TheVariants as cause
use Rattle.unl_explain.specs.declared.reason.ParentReason.{ParentReason}
use Rattle.unl_explain.specs.declared.reason.Reason.{Reason}
use Rattle.unl_explain.specs.declared.reason.SegmentReason.{SegmentReason}
use Rattle.unl_explain.specs.declared.reason.StrategyReason.{StrategyReason}

-- ---- parents

-- The status of a parent with this evaluation: off, or on with the name of its variant.
abbrev pub cause_by : Evaluation → ParentCause
cause_by e = if e.on then cause.On e.variant.name else cause.Off

-- The status of a parent that the state has: `HasParents` if the parent has dependencies of its own, otherwise the status by the
-- parent's evaluation.
unfoldable pub cause_of : List Segment → Fields → Moment → Feature → ParentCause
cause_of segments context moment parent =
    if length parent.dependencies == 0 then cause_by (evaluation_where true parent segments context moment) else cause.HasParents

-- The status of the parent with the given name: `Absent` if the state has no feature with that name.
unfoldable pub cause_in : State → Fields → Moment → List ℕ → ParentCause
cause_in state context moment name = option_map_or (cause_of state.segments context moment) (feature_named name state.features) cause.Absent

-- The result for the parent of a dependency: the parent's name and status, and whether the parent satisfies the dependency.
unfoldable pub parent_reason : State → Fields → Moment → Dependency → ParentReason
parent_reason state context moment d = record {
  feature = d.feature;
  cause = cause_in state context moment d.feature;
  met = is_met state context moment d;
}

-- ---- strategies

-- Whether each of the constraints holds, in their order.
unfoldable pub truths_of : List Constraint → Fields → ℕ → List Bool
truths_of constraints context now = map (λ c. constraint_holds c context now) constraints

-- The result for a segment that was found: whether each of its constraints holds.
abbrev pub found_reason : Fields → ℕ → ℕ → Segment → SegmentReason
found_reason context now id s = record { id = id; found = true; constraints = truths_of s.constraints context now }

-- The result for a segment that was not found.
abbrev pub missing_reason : ℕ → SegmentReason
missing_reason id = record { id = id; found = false; constraints = [] }

-- The result for the segment with the given id, to which a strategy refers.
unfoldable pub segment_reason : List Segment → Fields → ℕ → ℕ → SegmentReason
segment_reason segments context now id = option_map_or (found_reason context now id) (segment_with id segments) (missing_reason id)

-- The result for a strategy: its name, whether each of its constraints holds, the results for its segments, whether its own rule
-- (selected by its name) holds, and whether the strategy is active. `feature` is the name of the feature that has the strategy,
-- and `place` is the index of the strategy in that feature.
unfoldable pub strategy_reason : List ℕ → List Segment → Fields → Moment → ℕ → Strategy → StrategyReason
strategy_reason feature segments context moment place s = record {
  name = s.name;
  constraints = truths_of s.constraints context moment.now;
  segments = map (segment_reason segments context moment.now) s.segments;
  rule = rule_holds s feature place context moment;
  active = is_active s feature place segments context moment;
}

-- The results for the strategies in their order. The first strategy of the list has the index `place` in the feature.
abbrev pub reasons_from : ℕ → List Strategy → List ℕ → List Segment → Fields → Moment → List StrategyReason
reasons_from place [] feature segments context moment = []
reasons_from place (s ∷ ss) feature segments context moment =
    strategy_reason feature segments context moment place s ∷ reasons_from (place + 1) ss feature segments context moment

-- ---- features

-- The origin of the variant of a feature that is on: `Strategy` if a variant is chosen among those of the first active strategy,
-- otherwise `Own` if one is chosen among the feature's own, otherwise `NoVariant`. `first` is the index of the first active strategy.
abbrev pub origin_on : Feature → Fields → Moment → Option ℕ → Origin
origin_on f context moment first =
    if is_some (option_and_then (strategy_variant f context moment) first) then origin.Strategy else (
    if is_some (own_variant f context moment) then origin.Own else
    origin.NoVariant)

-- The origin of a feature's variant; `on` says whether the feature is on. A feature that is off has no variant.
unfoldable pub origin_of : Bool → Feature → Fields → Moment → Option ℕ → Origin
origin_of on f context moment first = if on then origin_on f context moment first else origin.NoVariant

-- The explanation of a feature of the state: the results for all dependencies and strategies, even if the feature is off.
unfoldable pub reason_of : State → Fields → Moment → Feature → Reason
reason_of state context moment f = record {
  evaluation = feature_evaluation state f context moment;
  enabled = f.enabled;
  parents = map (parent_reason state context moment) f.dependencies;
  strategies = reasons_from 0 f.strategies f.name state.segments context moment;
  first = first_active f state.segments context moment;
  source = origin_of (feature_evaluation state f context moment).on f context moment (first_active f state.segments context moment);
}

-- The explanation of the feature with the given name, or none if the state lacks it.
unfoldable pub reasons_of : State → List ℕ → Fields → Moment → Option Reason
reasons_of state name context moment = option_map (reason_of state context moment) (feature_named name state.features)
