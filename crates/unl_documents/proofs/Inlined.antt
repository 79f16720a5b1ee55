-- Inlining segments: it changes nothing where no strategy refers to a segment, and keeps a state valid if no strategy then has more than
-- 100 constraints.
use Rattle.std.proofs.Common.{◌≡◌, ℕ, ◌≤◌, ◌++◌, Bool, true, false, cond, List, [], ◌∷◌, length, map, Option, Some, None, inl, inr, refl, ap, sym, ◌∙◌, arith}
use Rattle.std.specs.Prelude.{All, flat_map, nat_lt, ◌==◌}
use Rattle.std.specs.List.{find, list_all}
use Rattle.std.specs.List.Sorted.{IsStrictlySortedBy}
use Rattle.std.specs.Option.{option_or, option_map_or}
use Rattle.std.proofs.lemmas.Bool.{cases_Bool}
use Rattle.std.proofs.lemmas.Bool.Decides.{nat_tests}
use Rattle.std.proofs.lemmas.List.{append-nil, length-map}
use Rattle.std.proofs.lemmas.List.Elements.{All-nil, All-cons, All-head, All-tail, All-append}
use Rattle.std.proofs.lemmas.List.Folds.{find-append}
use Rattle.unl_documents.specs.declared.feature.Feature.{Feature}
use Rattle.unl_documents.specs.declared.segment.Segment.{Segment}
use Rattle.unl_documents.specs.declared.state.State.{State}
use Rattle.unl_documents.specs.declared.strategy.Strategy.{Strategy}
use Rattle.unl_documents.specs.Inline.{segment_with, holds_for_nobody, constraints_for, all_constraints, inlined_strategy, inlined_feature, inlined, counts, first_excess}
use Rattle.unl_documents.specs.Limits.{Anything}
use Rattle.unl_documents.specs.Operators.{operator_of}
use Rattle.unl_documents.specs.States.{IsValidState, name_key}
use Rattle.unl_documents.specs.Valid.{IsValidConstraint, IsValidSegment, IsValidStrategy, IsValidFeature}

-- ---- strategies that refer to no segment

alone : (segments : List Segment) (s : Strategy) → s.segments ≡ [] → inlined_strategy segments s ≡ s
unfolding inlined_strategy all_constraints
alone segments s none =
    let same : s.constraints ++ flat_map (constraints_for segments) s.segments ≡ s.constraints = ap (λ ids. s.constraints ++ flat_map (constraints_for segments) ids) none ∙ append-nil s.constraints in
    let empty : [] ≡ s.segments = sym none in
    λ i. record { name = s.name; parameters = s.parameters; constraints = same i; segments = empty i; variants = s.variants }

no_ids : (ids : List ℕ) → (length ids == 0) ≡ true → ids ≡ []
no_ids [] is = refl
no_ids (id ∷ ids) is = let none : length (id ∷ ids) ≡ 0 = grind (arith, nat_tests) in absurd (cc)

abbrev names_none : Strategy → Bool
names_none s = length s.segments == 0

all_alone : (segments : List Segment) (ss : List Strategy) → list_all names_none ss ≡ true → map (inlined_strategy segments) ss ≡ ss
all_alone segments [] none = refl
all_alone segments (s ∷ ss) none =
    elim (cases_Bool (names_none s)) [
      | inl is ↦
          let later : list_all names_none (s ∷ ss) ≡ list_all names_none ss = rw is refl in
          let first = alone segments s (no_ids s.segments is) in
          let others = all_alone segments ss (sym later ∙ none) in
          λ i. first i ∷ others i
      | inr is_not ↦ let fails : list_all names_none (s ∷ ss) ≡ false = rw is_not refl in absurd (cc)
    ]

pub feature_alone : (segments : List Segment) (f : Feature) → list_all names_none f.strategies ≡ true → inlined_feature segments f ≡ f
unfolding inlined_feature
feature_alone segments f none =
    let same = all_alone segments f.strategies none in
    λ i. record {
      name = f.name;
      project = f.project;
      kind = f.kind;
      description = f.description;
      enabled = f.enabled;
      stale = f.stale;
      impression = f.impression;
      strategies = same i;
      variants = f.variants;
      dependencies = f.dependencies;
    }

-- ---- within the limits

nobody : IsValidConstraint holds_for_nobody
unfolding operator_of
nobody = record {
  field = omega arith;
  operator = record { name = omega arith; own = refl };
  values = (omega arith, All-nil (λ (v : List ℕ). length v ≤ 4096));
  value = tt;
}

either : (b : Bool) (x : Segment) (rest : Option Segment) → IsValidSegment x → All IsValidConstraint (option_map_or (λ s. s.constraints) rest (holds_for_nobody ∷ [])) → All IsValidConstraint (option_map_or (λ s. s.constraints) (cond b (Some x) rest) (holds_for_nobody ∷ []))
either true x rest valid later = valid.constraints.1
either false x rest valid later = later

for_one : (segments : List Segment) (id : ℕ) → All IsValidSegment segments → All IsValidConstraint (constraints_for segments id)
unfolding constraints_for
for_one [] id valid = All-cons IsValidConstraint holds_for_nobody [] nobody (All-nil IsValidConstraint)
for_one (x ∷ xs) id valid = either (x.id == id) x (segment_with id xs) (All-head IsValidSegment x xs valid) (for_one xs id (All-tail IsValidSegment x xs valid))

for_all : (segments : List Segment) (ids : List ℕ) → All IsValidSegment segments → All IsValidConstraint (flat_map (constraints_for segments) ids)
for_all segments [] valid = All-nil IsValidConstraint
for_all segments (id ∷ ids) valid = All-append IsValidConstraint (constraints_for segments id) (flat_map (constraints_for segments) ids) (for_one segments id valid) (for_all segments ids valid)

strategy_valid : (segments : List Segment) (s : Strategy) → All IsValidSegment segments → length (all_constraints segments s) ≤ 100 → IsValidStrategy s → IsValidStrategy (inlined_strategy segments s)
unfolding inlined_strategy all_constraints
strategy_valid segments s all few valid = record {
  name = valid.name;
  parameters = valid.parameters;
  constraints = (few, All-append IsValidConstraint s.constraints (flat_map (constraints_for segments) s.segments) valid.constraints.1 (for_all segments s.segments all));
  segments = (omega arith, All-nil (λ (id : ℕ). Anything id));
  variants = valid.variants;
}

strategies_valid : (segments : List Segment) (ss : List Strategy) → All IsValidSegment segments → find (nat_lt 100) (counts segments ss) ≡ None → All IsValidStrategy ss → All IsValidStrategy (map (inlined_strategy segments) ss)
strategies_valid segments [] all none valid = All-nil IsValidStrategy
strategies_valid segments (s ∷ ss) all none valid =
    elim (cases_Bool (nat_lt 100 (length (all_constraints segments s)))) [
      | inl is ↦
          let found : find (nat_lt 100) (counts segments (s ∷ ss)) ≡ Some (length (all_constraints segments s)) = rw is refl in absurd (cc)
      | inr is_not ↦
          let later : find (nat_lt 100) (counts segments (s ∷ ss)) ≡ find (nat_lt 100) (counts segments ss) = rw is_not refl in
          let few : length (all_constraints segments s) ≤ 100 = grind (arith, nat_tests) in
          All-cons IsValidStrategy (inlined_strategy segments s) (map (inlined_strategy segments) ss)
          (strategy_valid segments s all few (All-head IsValidStrategy s ss valid))
          (strategies_valid segments ss all (sym later ∙ none) (All-tail IsValidStrategy s ss valid))
    ]

feature_valid : (segments : List Segment) (f : Feature) → All IsValidSegment segments → find (nat_lt 100) (counts segments f.strategies) ≡ None → IsValidFeature f → IsValidFeature (inlined_feature segments f)
unfolding inlined_feature
feature_valid segments f all none valid = record {
  name = valid.name;
  project = valid.project;
  kind = valid.kind;
  description = valid.description;
  strategies = (rw (length-map f.strategies (inlined_strategy segments)) valid.strategies.0, strategies_valid segments f.strategies all none valid.strategies.1);
  variants = valid.variants;
  dependencies = valid.dependencies;
}

neither : (o p : Option ℕ) → option_or o p ≡ None → (o ≡ None) × (p ≡ None)
neither None p none = (refl, none)
neither (Some n) p none = absurd (cc)

features_valid : (segments : List Segment) (fs : List Feature) → All IsValidSegment segments → find (nat_lt 100) (flat_map (λ f. counts segments f.strategies) fs) ≡ None → All IsValidFeature fs → All IsValidFeature (map (inlined_feature segments) fs)
features_valid segments [] all none valid = All-nil IsValidFeature
features_valid segments (f ∷ fs) all none valid =
    let here = counts segments f.strategies in
    let there = flat_map (λ (g : Feature). counts segments g.strategies) fs in
    let both = neither (find (nat_lt 100) here) (find (nat_lt 100) there) (sym (find-append (nat_lt 100) here there) ∙ none) in
    All-cons IsValidFeature (inlined_feature segments f) (map (inlined_feature segments) fs)
    (feature_valid segments f all both.0 (All-head IsValidFeature f fs valid))
    (features_valid segments fs all both.1 (All-tail IsValidFeature f fs valid))

same_names : (segments : List Segment) (fs : List Feature) → map name_key (map (inlined_feature segments) fs) ≡ map name_key fs
unfolding inlined_feature
same_names segments [] = refl
same_names segments (f ∷ fs) = ap (λ names. f.name ∷ names) (same_names segments fs)

pub inlined_valid : (state : State) → IsValidState state → first_excess state ≡ None → IsValidState (inlined state)
unfolding inlined first_excess IsStrictlySortedBy
inlined_valid state valid none = record {
  features = features_valid state.segments state.features valid.segments none valid.features;
  names = rw (same_names state.segments state.features) valid.names;
  segments = All-nil IsValidSegment;
  ids = tt;
}
