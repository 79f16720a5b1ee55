-- Events that leave each feature at its position and in its project leave the project index as it is.
use Rattle.std.proofs.Common.{◌≡◌, ℕ, zero, suc, ◌+◌, Bool, true, false, not, cond, List, [], ◌∷◌, map, Option, Some, None, inl, inr, refl, sym, ap, subst, ◌∙◌}
use Rattle.std.specs.Prelude.{option_and_then, option_map, slice_get, slice_set}
use Rattle.std.specs.List.{AllByRecursion as Every, list_all, prefix_len}
use Rattle.std.specs.Option.{option_map_or}
use Rattle.std.specs.Str.{bytes_eq}
use Rattle.std.proofs.lemmas.Bool.{cases_Bool}
use Rattle.std.proofs.lemmas.Slice.Eq.{bytes_eq-Decides}
use Rattle.unl_compiled.specs.Next.{keeps_place, state_after}
use Rattle.unl_compiled.specs.Places.{IsIndex, places_from}
use Rattle.unl_compiled.specs.declared.index.ProjectPlaces.{ProjectPlaces}
use Rattle.unl_constraints.proofs.Searching.{if_key, decided_by_search}
use Rattle.unl_delta.specs.declared.event.Event.{Event}
use Rattle.unl_delta.specs.declared.event.Event.TheVariants.{Hydration, FeatureUpdated, FeatureRemoved, SegmentUpdated, SegmentRemoved}
use Rattle.unl_delta.specs.Keyed.{is_before, put}
use Rattle.unl_delta.specs.State.{IsInOrder, fold_events, is_change, later, number_of, project_of, step}
use Rattle.unl_delta.proofs.Every.{every_filter}
use Rattle.unl_delta.proofs.InPlace.{Parts, parts_at, replaced_is, represents}
use Rattle.unl_delta.proofs.Order.{less_apart, less_from_test, rises_from_rising, rising_again, without_none}
use Rattle.unl_delta.proofs.Steps.{InOrder, in_order, project_found, step_in_order}
use Rattle.unl_documents.specs.declared.feature.Feature.{Feature}
use Rattle.unl_documents.specs.declared.state.State.{State}
use Rattle.unl_documents.specs.Parameters.{AreRising}
use Rattle.unl_documents.specs.States.{name_key}

-- The name and the project of each feature. The project index depends only on these.
abbrev pub sides : List Feature → List (List ℕ × List ℕ)
sides fs = map (λ f. (f.name, f.project)) fs

-- ---- lists that agree in names and projects

-- Two lists agree in names and projects: their first features do, and so does the rest.
record AlikeCons (f g : Feature) (fs gs : List Feature) : Type 0 where
  names : f.name ≡ g.name
  projects : f.project ≡ g.project
  rest : sides fs ≡ sides gs

alike_cons : (f g : Feature) (fs gs : List Feature) → sides (f ∷ fs) ≡ sides (g ∷ gs) → AlikeCons f g fs gs
alike_cons f g fs gs h =
    let first : (f.name, f.project) ≡ (g.name, g.project) = cc in
    record { names = ap (λ (p : List ℕ × List ℕ). p.0) first; projects = ap (λ (p : List ℕ × List ℕ). p.1) first; rest = cc }

project_alike : (name : List ℕ) (fs gs : List Feature) → sides fs ≡ sides gs → project_of name fs ≡ project_of name gs
project_alike name [] [] h = refl
project_alike name [] (g ∷ gs) h = absurd cc
project_alike name (f ∷ fs) [] h = absurd cc
project_alike name (f ∷ fs) (g ∷ gs) h =
    let alike = alike_cons f g fs gs h in
    let rest = project_alike name fs gs alike.rest in
    λ i. cond (bytes_eq (alike.names i) name) (Some (alike.projects i)) (rest i)

places_alike : (place : ℕ) (project : List ℕ) (fs gs : List Feature) → sides fs ≡ sides gs → places_from place project fs ≡ places_from place project gs
places_alike place project [] [] h = refl
places_alike place project [] (g ∷ gs) h = absurd cc
places_alike place project (f ∷ fs) [] h = absurd cc
places_alike place project (f ∷ fs) (g ∷ gs) h =
    let alike = alike_cons f g fs gs h in
    let rest = places_alike (place + 1) project fs gs alike.rest in
    λ i. cond (bytes_eq (alike.projects i) project) (place ∷ rest i) (rest i)

keeps_alike : (fs gs : List Feature) (e : Event) → sides fs ≡ sides gs → keeps_place fs e ≡ keeps_place gs e
keeps_alike fs gs (Hydration n state) h = refl
keeps_alike fs gs (FeatureUpdated n feature) h = ap (λ (o : Option (List ℕ)). option_map_or (λ p. bytes_eq p feature.project) o false) (project_alike feature.name fs gs h)
keeps_alike fs gs (FeatureRemoved n name project) h = ap (λ (o : Option (List ℕ)). option_map_or (λ p. false) o true) (project_alike name fs gs h)
keeps_alike fs gs (SegmentUpdated n segment) h = refl
keeps_alike fs gs (SegmentRemoved n id) h = refl

-- ---- one event

-- Replacing a feature by one with the same name and project changes no name and no project.
set_alike : (fs : List Feature) (i : ℕ) (f g : Feature) → slice_get fs i ≡ Some g → f.name ≡ g.name → f.project ≡ g.project → sides (slice_set fs i f) ≡ sides fs
set_alike [] zero f g at names projects = absurd cc
set_alike [] (suc i) f g at names projects = absurd cc
set_alike (x ∷ xs) zero f g at names projects =
    let same : g ≡ x = cc in
    let first : (f.name, f.project) ≡ (x.name, x.project) = (λ i. (names i, projects i)) ∙ ap (λ (y : Feature). (y.name, y.project)) same in
    ap (λ (p : List ℕ × List ℕ). p ∷ sides xs) first
set_alike (x ∷ xs) (suc i) f g at names projects = ap (λ (ps : List (List ℕ × List ℕ)). (x.name, x.project) ∷ ps) (set_alike xs i f g at names projects)

-- The same for `put`, which finds the position by the name.
put_at : (f g : Feature) (fs : List Feature) (place : ℕ) → place ≡ prefix_len (λ y. is_before (name_key y) f.name) fs → AreRising (map name_key fs) → slice_get fs place ≡ Some g
    → bytes_eq g.name f.name ≡ true → bytes_eq g.project f.project ≡ true → sides (put name_key f fs) ≡ sides fs
put_at f g fs place is rising at named within =
    let before : is_before f.name g.name ≡ false =
    elim (cases_Bool (is_before f.name g.name)) [
      | inl less ↦ let apart : bytes_eq g.name f.name ≡ false = less_apart f.name g.name (less_from_test _ less) in absurd cc
      | inr other ↦ other
    ] in
    let represented : represents name_key f.name fs place ≡ true = rw (at, before) refl in
    let parts : Parts name_key f.name fs place true = subst (λ (t : Bool). Parts name_key f.name fs place t) represented (parts_at name_key f.name fs place (rises_from_rising name_key fs rising) is) in
    sym (ap sides (replaced_is name_key f fs place parts))
    ∙ set_alike fs place f g at (sym ((bytes_eq-Decides g.name f.name).0 named)) (sym ((bytes_eq-Decides g.project f.project).0 within))

put_alike : (f : Feature) (fs : List Feature) → AreRising (map name_key fs) → option_map_or (λ p. bytes_eq p f.project) (project_of f.name fs) false ≡ true → sides (put name_key f fs) ≡ sides fs
put_alike f fs rising within = decided (slice_get fs place) refl
  where
    place : ℕ
    place = prefix_len (λ y. is_before (name_key y) f.name) fs

    known : option_map_or (λ p. bytes_eq p f.project) (option_map (λ g. g.project) (option_and_then (if_key name_key f.name) (slice_get fs place))) false ≡ true
    known =
        ap (λ (o : Option Feature). option_map_or (λ p. bytes_eq p f.project) (option_map (λ (g : Feature). g.project) o) false) (decided_by_search name_key f.name fs rising).0
        ∙ ap (λ (o : Option (List ℕ)). option_map_or (λ p. bytes_eq p f.project) o false) (project_found f.name fs) ∙ within

    decided : (o : Option Feature) → slice_get fs place ≡ o → sides (put name_key f fs) ≡ sides fs
    decided None at = let none : false ≡ true = rw at at known in absurd cc
    decided (Some g) at =
        elim (cases_Bool (bytes_eq g.name f.name)) [
          | inl named ↦ put_at f g fs place refl rising at named (rw (at, named) at known)
          | inr other ↦ let none : false ≡ true = rw (at, other) at known in absurd cc
        ]

pub none_named : (name : List ℕ) (fs : List Feature) → option_map_or (λ p. false) (project_of name fs) true ≡ true → Every (λ f. bytes_eq f.name name ≡ false) fs
none_named name [] none = tt
none_named name (f ∷ fs) none =
    elim (cases_Bool (bytes_eq f.name name)) [
      | inl is ↦ let found : false ≡ true = rw is at none in absurd cc
      | inr other ↦ (other, none_named name fs (rw other at none))
    ]

step_alike : (e : Event) (s : State) → InOrder s → keeps_place s.features e ≡ true → sides (step e s).features ≡ sides s.features
step_alike (Hydration n state) s order keeps = absurd cc
step_alike (FeatureUpdated n feature) s order keeps = put_alike feature s.features (rising_again name_key s.features order.names) keeps
step_alike (FeatureRemoved n name project) s order keeps = ap sides (without_none name_key name s.features order.names (none_named name s.features keeps))
step_alike (SegmentUpdated n segment) s order keeps = refl
step_alike (SegmentRemoved n id) s order keeps = refl

changes : (fs : List Feature) (e : Event) → keeps_place fs e ≡ true → is_change e ≡ true
changes fs (Hydration n state) keeps = absurd cc
changes fs (FeatureUpdated n feature) keeps = refl
changes fs (FeatureRemoved n name project) keeps = refl
changes fs (SegmentUpdated n segment) keeps = refl
changes fs (SegmentRemoved n id) keeps = refl

-- ---- event by event

fold_alike : (first : List Feature) (s : State) (es : List Event) → InOrder s → sides s.features ≡ sides first → Every (λ e. keeps_place first e ≡ true) es → sides (fold_events es s).features ≡ sides first
fold_alike first s [] order so_far keeps = so_far
fold_alike first s (e ∷ es) order so_far keeps =
    let here : keeps_place s.features e ≡ true = keeps_alike s.features first e so_far ∙ keeps.0 in
    fold_alike first (step e s) es (step_in_order e s (changes first e keeps.0) order) (step_alike e s order here ∙ so_far) keeps.1

every_kept : (p : Event → Bool) (es : List Event) → list_all p es ≡ true → Every (λ e. p e ≡ true) es
every_kept p [] h = tt
every_kept p (e ∷ es) h =
    elim (cases_Bool (p e)) [
      | inl is ↦ (is, every_kept p es (rw is at h))
      | inr not ↦ let none : false ≡ true = rw not at h in absurd cc
    ]

later_alike : (number : ℕ) (s : State) (es : List Event) → InOrder s → Every (λ e. keeps_place s.features e ≡ true) es → sides (fold_events (later number_of number es) s).features ≡ sides s.features
unfolding later
later_alike number s es order keeps = fold_alike s.features s _ order refl (every_filter (λ (e : Event). keeps_place s.features e ≡ true) _ es keeps)

after_alike : (number : ℕ) (es : List Event) (s : State) → InOrder s → Every (λ e. keeps_place s.features e ≡ true) es → sides (state_after number es s).features ≡ sides s.features
after_alike number [] s order keeps = refl
after_alike number (Hydration n state ∷ es) s order keeps = let none : false ≡ true = keeps.0 in absurd cc
after_alike number (FeatureUpdated n feature ∷ es) s order keeps = later_alike number s (FeatureUpdated n feature ∷ es) order keeps
after_alike number (FeatureRemoved n name project ∷ es) s order keeps = later_alike number s (FeatureRemoved n name project ∷ es) order keeps
after_alike number (SegmentUpdated n segment ∷ es) s order keeps = later_alike number s (SegmentUpdated n segment ∷ es) order keeps
after_alike number (SegmentRemoved n id ∷ es) s order keeps = later_alike number s (SegmentRemoved n id ∷ es) order keeps

-- If each event leaves each feature at its position and in its project, the index of the features before the events is also the index of
-- the features after them.
pub still_index : (number : ℕ) (es : List Event) (s after : State) (index : List ProjectPlaces) → IsInOrder s → list_all (keeps_place s.features) es ≡ true
    → after ≡ state_after number es s → IsIndex s.features index → IsIndex after.features index
still_index number es s after index order keeps is places project =
    let alike : sides after.features ≡ sides s.features = ap (λ (t : State). sides t.features) is ∙ after_alike number es s (in_order s order) (every_kept (keeps_place s.features) es keeps) in
    places project ∙ sym (places_alike 0 project after.features s.features alike)
