-- Proofs of laws on evaluations: by name, exactly the features of the state are found, and a parent evaluates the same on its own.
use Rattle.std.proofs.Common.{◌≡◌, ◌≢◌, ℕ, zero, suc, true, false, List, [], ◌∷◌, length, map, Option, Some, None, Less, nat_cmp, inl, inr, refl, ap, sym, ◌∙◌, subst}
use Rattle.std.specs.Prelude.{◌↔◌, All, option_map, unwrap_or, slice_get}
use Rattle.std.specs.Cmp.Lexicographic.{slice_cmp}
use Rattle.std.specs.List.{AllByRecursion}
use Rattle.std.specs.List.Sorted.{IsStrictlySortedBy}
use Rattle.std.specs.Ordering.{is_eq}
use Rattle.std.specs.Str.{bytes_eq}
use Rattle.std.proofs.lemmas.Bool.{cases_Bool}
use Rattle.std.proofs.lemmas.List.Elements.{All-nil, All-cons, All-head, All-tail}
use Rattle.std.proofs.lemmas.Map.Text.{is_eq-slice_cmp}
use Rattle.std.proofs.lemmas.Slice.Eq.{bytes_eq-Decides}
use Rattle.unl_documents.specs.declared.dependency.Dependency.{Dependency}
use Rattle.unl_documents.specs.declared.feature.Feature.{Feature}
use Rattle.unl_documents.specs.declared.state.State.{State}
use Rattle.unl_documents.specs.States.{name_key}
use Rattle.unl_context.specs.Context.{Fields}
use Rattle.unl_strategies.specs.Moment.{Moment}
use Rattle.unl_dependencies.specs.Evaluation.{feature_named, dependencies_met, evaluation_where, feature_evaluation, evaluation_of}
use Rattle.unl_dependencies.specs.Laws.{Lacks}

-- ---- no evaluation exactly if the state lacks the name

found_not : (name : List ℕ) (fs : List Feature) → feature_named name fs ≡ None → All (λ (f : Feature). f.name ≢ name) fs
found_not name [] none = All-nil (λ (f : Feature). f.name ≢ name)
found_not name (x ∷ xs) none =
    elim (cases_Bool (bytes_eq x.name name)) [
      | inl is_it ↦ let found : feature_named name (x ∷ xs) ≡ Some x = rw is_it refl in absurd (cc)
      | inr is_not ↦
          let later : feature_named name (x ∷ xs) ≡ feature_named name xs = rw is_not refl in
          All-cons (λ (f : Feature). f.name ≢ name) x xs (λ same. let is_it = (bytes_eq-Decides x.name name).1 same in absurd (cc)) (found_not name xs (sym later ∙ none))
    ]

lacking : (name : List ℕ) (fs : List Feature) → All (λ (f : Feature). f.name ≢ name) fs → feature_named name fs ≡ None
lacking name [] others = refl
lacking name (x ∷ xs) others =
    elim (cases_Bool (bytes_eq x.name name)) [
      | inl is_it ↦ absurd (All-head (λ (f : Feature). f.name ≢ name) x xs others ((bytes_eq-Decides x.name name).0 is_it))
      | inr is_not ↦ rw is_not (lacking name xs (All-tail (λ (f : Feature). f.name ≢ name) x xs others))
    ]

mapped_none : {A B : Type 0} (g : A → B) (o : Option A) → option_map g o ≡ None → o ≡ None
mapped_none g None is = refl
mapped_none g (Some x) is = absurd (cc)

pub none_exactly_if_absent : (state : State) (name : List ℕ) (context : Fields) (moment : Moment) → (evaluation_of state name context moment ≡ None) ↔ Lacks state name
unfolding evaluation_of
none_exactly_if_absent state name context moment = (
  λ none. found_not name state.features (mapped_none (λ f. feature_evaluation state f context moment) (feature_named name state.features) none),
  λ lacks. ap (option_map (λ f. feature_evaluation state f context moment)) (lacking name state.features lacks),
)

-- ---- each feature is found

all_at : (P : List ℕ → Type 0) (fs : List Feature) (place : ℕ) (f : Feature) → AllByRecursion P (map name_key fs) → slice_get fs place ≡ Some f → P f.name
all_at P [] place f all is = absurd (cc)
all_at P (x ∷ xs) zero f all is = subst (λ (g : Feature). P g.name) (ap (λ o. unwrap_or o x) is) all.0
all_at P (x ∷ xs) (suc place) f all is = all_at P xs place f all.1 is

found_at : (fs : List Feature) (place : ℕ) (f : Feature) → IsStrictlySortedBy (slice_cmp nat_cmp) (map name_key fs) → slice_get fs place ≡ Some f → feature_named f.name fs ≡ Some f
unfolding IsStrictlySortedBy
found_at [] place f rising is = absurd (cc)
found_at (x ∷ xs) zero f rising is =
    let same : x ≡ f = ap (λ o. unwrap_or o x) is in
    let is_it : bytes_eq x.name f.name ≡ true = (bytes_eq-Decides x.name f.name).1 (ap (λ (g : Feature). g.name) same) in
    rw is_it is
found_at (x ∷ xs) (suc place) f rising is =
    let below : slice_cmp nat_cmp x.name f.name ≡ Less = all_at (λ name. slice_cmp nat_cmp x.name name ≡ Less) xs place f rising.0 is in
    let is_not : bytes_eq x.name f.name ≡ false = sym (is_eq-slice_cmp x.name f.name) ∙ ap is_eq below in
    rw is_not (found_at xs place f rising.1 is)

pub each_is_found : (state : State) (place : ℕ) (f : Feature) (context : Fields) (moment : Moment) → IsStrictlySortedBy (slice_cmp nat_cmp) (map name_key state.features) → slice_get state.features place ≡ Some f → evaluation_of state f.name context moment ≡ Some (feature_evaluation state f context moment)
unfolding evaluation_of
each_is_found state place f context moment rising is =
    ap (option_map (λ g. feature_evaluation state g context moment)) (found_at state.features place f rising is)

-- ---- a parent evaluates the same on its own

no_dependencies : (dependencies : List Dependency) (state : State) (context : Fields) (moment : Moment) → length dependencies ≡ 0 → dependencies_met dependencies state context moment ≡ true
unfolding dependencies_met
no_dependencies [] state context moment none = refl
no_dependencies (d ∷ ds) state context moment none = absurd (cc)

pub parent_evaluates_alone : (state : State) (parent : Feature) (context : Fields) (moment : Moment) → length parent.dependencies ≡ 0 → feature_evaluation state parent context moment ≡ evaluation_where true parent state.segments context moment
unfolding feature_evaluation
parent_evaluates_alone state parent context moment none =
    ap (λ met. evaluation_where met parent state.segments context moment) (no_dependencies parent.dependencies state context moment none)
