-- The evaluation of a feature for a context (the data about a user) at a moment (the time, the source of random numbers and the host
-- name): whether the feature is on, and its variant, by the Unleash references on strategies, variants and dependencies.
use Rattle.std.specs.Prelude.{ℕ, ◌+◌, List, [], ◌∷◌, codes, length, Bool, true, false, not, ◌&&◌, ◌||◌, ◌==◌, Option, Some, None, is_some}
use Rattle.std.specs.Prelude.{option_map, option_and_then, slice_get, if◌then◌else◌}
use Rattle.std.specs.List.{list_all, find}
use Rattle.std.specs.Option.{option_or, option_map_or}
use Rattle.std.specs.Str.{bytes_eq}
use Rattle.unl_documents.specs.declared.dependency.Dependency.{Dependency}
use Rattle.unl_documents.specs.declared.feature.Feature.{Feature}
use Rattle.unl_documents.specs.declared.segment.Segment.{Segment}
use Rattle.unl_documents.specs.declared.state.State.{State}
use Rattle.unl_documents.specs.declared.strategy.Strategy.{Strategy}
use Rattle.unl_documents.specs.declared.variant.Variant.{Variant}
use Rattle.unl_context.specs.Context.{Fields}
use Rattle.unl_strategies.specs.declared.moment.Mark.{Mark}
use Rattle.unl_strategies.specs.declared.moment.Mark.TheVariants as mark
use Rattle.unl_strategies.specs.Moment.{Moment}
use Rattle.unl_strategies.specs.Random.{random_number, random_id}
use Rattle.unl_strategies.specs.Strategy.{is_active, parameter_or}
use Rattle.unl_variants.specs.Variant.{choice_of, is_among}
use Rattle.unl_dependencies.specs.declared.evaluation.Evaluation.{Evaluation}
use Rattle.unl_dependencies.specs.declared.evaluation.VariantAnswer.{VariantAnswer}

-- The feature has a strategy at the index, and that strategy is active.
abbrev pub is_active_at : Feature → List Segment → Fields → Moment → ℕ → Bool
is_active_at f segments context moment place =
    option_map_or (λ s. is_active s f.name place segments context moment) (slice_get f.strategies place) false

-- The index of the first active strategy of a list, if there is one. The indexes are counted from `place`.
abbrev pub active_from : ℕ → List Strategy → List ℕ → List Segment → Fields → Moment → Option ℕ
active_from place [] feature segments context moment = None
active_from place (s ∷ ss) feature segments context moment =
    if is_active s feature place segments context moment then Some place
    else active_from (place + 1) ss feature segments context moment

-- The index of the feature's first active strategy, if there is one.
unfoldable pub first_active : Feature → List Segment → Fields → Moment → Option ℕ
first_active f segments context moment = active_from 0 f.strategies f.name segments context moment

-- The feature is on: it is enabled, its dependencies are met (`met`), and it has no strategies or an active one.
unfoldable pub is_on : Bool → Feature → List Segment → Fields → Moment → Bool
is_on met f segments context moment =
    f.enabled && (met && (length f.strategies == 0 || is_some (first_active f segments context moment)))

-- The random id of a feature, from 1 to 10,000, for the variants of one strategy or for the feature's own, as `mark` says.
abbrev pub random_of : Feature → Mark → Moment → ℕ
random_of f mark moment = random_id (random_number f.name mark moment.word)

-- The variant that is chosen for a context. There is none if the weights sum to 0. The first variant with an override for the context is
-- chosen, or else one by weight. The choice by weight hashes `group` together with the text of the context that the stickiness selects. If
-- the stickiness selects no text, the random id `random` is hashed instead.
unfoldable pub variant_in : List ℕ → List Variant → Fields → ℕ → Option Variant
variant_in group variants context random = option_and_then (slice_get variants) (choice_of group variants context random)

-- The group of a strategy's variants: its parameter `groupId`, or the feature's name if this parameter is absent or empty.
abbrev pub group_of : Feature → Strategy → List ℕ
group_of f s = parameter_or f.name (codes "groupId") s.parameters

-- The variant that is chosen among those of the strategy at the index, if there is such a strategy and a variant is chosen.
unfoldable pub strategy_variant : Feature → Fields → Moment → ℕ → Option Variant
strategy_variant f context moment place =
    option_and_then (λ s. variant_in (group_of f s) s.variants context (random_of f (mark.Strategy place) moment))
    (slice_get f.strategies place)

-- The variant that is chosen among the feature's own, if one is chosen.
unfoldable pub own_variant : Feature → Fields → Moment → Option Variant
own_variant f context moment = variant_in f.name f.variants context (random_of f mark.Own moment)

-- The variant chosen among those of the strategy at the index `first` (the feature's first active strategy, if there is one), or else among
-- the feature's own.
unfoldable pub variant_of_feature : Feature → Fields → Moment → Option ℕ → Option Variant
variant_of_feature f context moment first =
    option_or (option_and_then (strategy_variant f context moment) first) (own_variant f context moment)

-- The parts of a variant that an evaluation reports. Without a variant, the name is `disabled`.
abbrev pub variant_answer : Option Variant → VariantAnswer
variant_answer None = record { name = codes "disabled"; enabled = false; payload = None }
variant_answer (Some v) = record { name = v.name; enabled = true; payload = v.payload }

-- The evaluation of a feature that is off, which has no variant.
abbrev pub off : Evaluation
off = record { on = false; variant = variant_answer None }

-- The evaluation of a feature that is on, with this variant, if there is one.
abbrev pub on_with : Option Variant → Evaluation
on_with variant = record { on = true; variant = variant_answer variant }

-- The evaluation of a feature, given whether its dependencies are met (`met`).
unfoldable pub evaluation_where : Bool → Feature → List Segment → Fields → Moment → Evaluation
evaluation_where met f segments context moment =
    if is_on met f segments context moment
    then on_with (variant_of_feature f context moment (first_active f segments context moment)) else off

-- The first feature with the given name.
abbrev pub feature_named : List ℕ → List Feature → Option Feature
feature_named name features = find (λ f. bytes_eq f.name name) features

-- The parent's evaluation is the one that the dependency requires. A dependency that is not enabled requires that the parent is off. Any
-- other requires that the parent is on and, if the dependency lists variants, that the parent's variant is one of them. A parent without a
-- variant counts as having the variant `disabled`.
abbrev pub agrees : Dependency → Evaluation → Bool
agrees d parent =
    if d.enabled then parent.on && (length d.variants == 0 || is_among d.variants parent.variant.name) else not parent.on

-- The parent has no dependencies of its own, and its evaluation is the one that the dependency requires.
unfoldable pub is_met_by : List Segment → Fields → Moment → Dependency → Feature → Bool
is_met_by segments context moment d parent =
    length parent.dependencies == 0 && agrees d (evaluation_where true parent segments context moment)

-- The state has the parent, and the parent satisfies the dependency.
unfoldable pub is_met : State → Fields → Moment → Dependency → Bool
is_met state context moment d = option_map_or (is_met_by state.segments context moment d) (feature_named d.feature state.features) false

-- All of the dependencies are met.
unfoldable pub dependencies_met : List Dependency → State → Fields → Moment → Bool
dependencies_met dependencies state context moment = list_all (is_met state context moment) dependencies

-- The evaluation of a feature in a state.
unfoldable pub feature_evaluation : State → Feature → Fields → Moment → Evaluation
feature_evaluation state f context moment =
    evaluation_where (dependencies_met f.dependencies state context moment) f state.segments context moment

-- The evaluation of the feature with the given name, or none if the state has no such feature.
unfoldable pub evaluation_of : State → List ℕ → Fields → Moment → Option Evaluation
evaluation_of state name context moment = option_map (λ f. feature_evaluation state f context moment) (feature_named name state.features)
