-- A strategy is active for the same contexts after its segments are inlined, that is, replaced by copies of their constraints.
use Rattle.std.proofs.Common.{◌≡◌, ℕ, Bool, true, false, List, [], ◌∷◌, ◌++◌, Option, Some, None, refl, ap, ◌∙◌}
use Rattle.std.specs.Prelude.{◌&&◌, codes, flat_map}
use Rattle.std.specs.List.{list_all}
use Rattle.std.specs.Option.{option_map_or}
use Rattle.std.proofs.lemmas.List.Folds.{list_all-append}
use Rattle.unl_documents.specs.declared.constraint.Constraint.{Constraint}
use Rattle.unl_documents.specs.declared.segment.Segment.{Segment}
use Rattle.unl_documents.specs.declared.strategy.Strategy.{Strategy}
use Rattle.unl_documents.specs.Inline.{segment_with, holds_for_nobody, constraints_for, all_constraints, inlined_strategy}
use Rattle.unl_context.specs.Context.{Fields, field_of}
use Rattle.unl_constraints.specs.Constraint.{is_in, fits, constraint_holds, all_hold}
use Rattle.unl_constraints.specs.Texts.{is_among}
use Rattle.unl_strategies.specs.Moment.{Moment}
use Rattle.unl_strategies.specs.Strategy.{is_segment_met, rule_holds, is_active}

-- ---- constraints

none_among : (found : Option (List ℕ)) → option_map_or (is_among []) found false ≡ false
none_among None = refl
none_among (Some text) = refl

nobody : (context : Fields) (now : ℕ) → all_hold (holds_for_nobody ∷ []) context now ≡ false
unfolding all_hold constraint_holds fits is_in
nobody context now = rw (none_among (field_of context (codes "userId"))) refl

in_place : (found : Option Segment) (context : Fields) (now : ℕ) → all_hold (option_map_or (λ s. s.constraints) found (holds_for_nobody ∷ [])) context now ≡ option_map_or (λ s. all_hold s.constraints context now) found false
in_place None context now = nobody context now
in_place (Some s) context now = refl

for_one : (segments : List Segment) (context : Fields) (now id : ℕ) → all_hold (constraints_for segments id) context now ≡ is_segment_met segments context now id
unfolding constraints_for is_segment_met
for_one segments context now id = in_place (segment_with id segments) context now

both : (xs ys : List Constraint) (context : Fields) (now : ℕ) → all_hold (xs ++ ys) context now ≡ (all_hold xs context now && all_hold ys context now)
unfolding all_hold
both xs ys context now = list_all-append (λ c. constraint_holds c context now) xs ys

nothing : (context : Fields) (now : ℕ) → all_hold [] context now ≡ true
unfolding all_hold
nothing context now = refl

for_all : (segments : List Segment) (context : Fields) (now : ℕ) (ids : List ℕ) → all_hold (flat_map (constraints_for segments) ids) context now ≡ list_all (is_segment_met segments context now) ids
for_all segments context now [] = nothing context now
for_all segments context now (id ∷ ids) =
    let first = for_one segments context now id in
    let others = for_all segments context now ids in
    both (constraints_for segments id) (flat_map (constraints_for segments) ids) context now ∙ (λ i. first i && others i)

-- ---- strategies

grouped : (a b c : Bool) → ((a && b) && c) ≡ (a && (b && c))
grouped true b c = refl
grouped false b c = refl

same_rule : (segments : List Segment) (s : Strategy) (feature : List ℕ) (place : ℕ) (context : Fields) (moment : Moment) → rule_holds (inlined_strategy segments s) feature place context moment ≡ rule_holds s feature place context moment
unfolding inlined_strategy rule_holds
same_rule segments s feature place context moment = refl

pub same_active : (segments : List Segment) (s : Strategy) (feature : List ℕ) (place : ℕ) (context : Fields) (moment : Moment) → is_active (inlined_strategy segments s) feature place [] context moment ≡ is_active s feature place segments context moment
unfolding inlined_strategy all_constraints is_active
same_active segments s feature place context moment =
    let own = all_hold s.constraints context moment.now in
    let met = list_all (is_segment_met segments context moment.now) s.segments in
    let rule = rule_holds s feature place context moment in
    let written : all_hold (all_constraints segments s) context moment.now ≡ (own && met) =
    both s.constraints (flat_map (constraints_for segments) s.segments) context moment.now ∙ ap (λ b. own && b) (for_all segments context moment.now s.segments) in
    let kept = same_rule segments s feature place context moment in
    (λ i. written i && kept i) ∙ grouped own met rule
