-- Inlining segments: strategies get copies of the constraints of the segments that they refer to. This is for clients
-- that don't support segments.
use Rattle.std.specs.Prelude.{ℕ, List, [], ◌∷◌, ◌++◌, map, length, flat_map, codes, false, Option, Some, None, Result, Ok, Err, nat_lt}
use Rattle.std.specs.Prelude.{◌==◌}
use Rattle.std.specs.List.{find}
use Rattle.std.specs.Option.{option_map_or}
use Rattle.unl_documents.specs.declared.constraint.Constraint.{Constraint}
use Rattle.unl_documents.specs.declared.feature.Feature.{Feature}
use Rattle.unl_documents.specs.declared.inlining.InlineRefusal.{InlineRefusal}
use Rattle.unl_documents.specs.declared.inlining.InlineRefusal.TheVariants.{TooMany}
use Rattle.unl_documents.specs.declared.operator.Operator.TheVariants.{In}
use Rattle.unl_documents.specs.declared.segment.Segment.{Segment}
use Rattle.unl_documents.specs.declared.state.State.{State}
use Rattle.unl_documents.specs.declared.strategy.Strategy.{Strategy}

-- The first segment with this id, if there is one.
abbrev pub segment_with : ℕ → List Segment → Option Segment
segment_with id segments = find (λ s. s.id == id) segments

-- A constraint that no context meets: `userId` IN an empty list.
abbrev pub holds_for_nobody : Constraint
holds_for_nobody = record { field = codes "userId"; operator = In; values = []; value = None; caseless = false; inverted = false }

-- The constraints inlined for a segment id: those of the segment, or `holds_for_nobody` if there is no segment with
-- this id.
unfoldable pub constraints_for : List Segment → ℕ → List Constraint
constraints_for segments id = option_map_or (λ s. s.constraints) (segment_with id segments) (holds_for_nobody ∷ [])

-- The strategy's own constraints, followed by the constraints inlined for each of its segment ids in order.
unfoldable pub all_constraints : List Segment → Strategy → List Constraint
all_constraints segments s = s.constraints ++ flat_map (constraints_for segments) s.segments

-- The strategy with the constraints of its segments added to its own, and without segment ids.
unfoldable pub inlined_strategy : List Segment → Strategy → Strategy
inlined_strategy segments s = record {
  name = s.name;
  parameters = s.parameters;
  constraints = all_constraints segments s;
  segments = [];
  variants = s.variants;
}

-- The feature with the segments inlined into each of its strategies.
unfoldable pub inlined_feature : List Segment → Feature → Feature
inlined_feature segments f = record {
  name = f.name;
  project = f.project;
  kind = f.kind;
  description = f.description;
  enabled = f.enabled;
  stale = f.stale;
  impression = f.impression;
  strategies = map (inlined_strategy segments) f.strategies;
  variants = f.variants;
  dependencies = f.dependencies;
}

-- The state with its segments inlined into the strategies that refer to them.
unfoldable pub inlined : State → State
inlined state = record { features = map (inlined_feature state.segments) state.features; segments = [] }

-- The number of constraints that each strategy would have after inlining.
abbrev pub counts : List Segment → List Strategy → List ℕ
counts segments strategies = map (λ s. length (all_constraints segments s)) strategies

-- The number of constraints of the first strategy that would have more than 100, in the order of features and
-- strategies.
unfoldable pub first_excess : State → Option ℕ
first_excess state = find (nat_lt 100) (flat_map (λ f. counts state.segments f.strategies) state.features)

-- The state, or `TooMany` with the count if `first_excess` found a strategy with too many constraints.
abbrev pub unless_excess : Option ℕ → State → Result State InlineRefusal
unless_excess None state = Ok state
unless_excess (Some count) state = Err (TooMany count)

-- The state with its segments inlined; or, if a strategy would have more than 100 constraints, `TooMany` with the count of the first
-- such strategy.
unfoldable pub inlining_of : State → Result State InlineRefusal
inlining_of state = unless_excess (first_excess state) (inlined state)
