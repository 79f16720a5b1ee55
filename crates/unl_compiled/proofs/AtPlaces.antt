-- The toggles of the features at the positions of a project are the toggles of the project's features.
use Rattle.std.proofs.Common.{◌≡◌, ◌+◌, ℕ, zero, suc, Bool, true, false, cond, List, [], ◌∷◌, ◌++◌, length, Option, Some, None, option_and_then, option_map, inl, inr, refl, sym, ap, subst, ◌∙◌, append_assoc, true≢false}
use Rattle.std.specs.Prelude.{All, IfSome, filter, filter_map, slice_get}
use Rattle.std.specs.List.{cons_option}
use Rattle.std.specs.Str.{bytes_eq}
use Rattle.std.proofs.lemmas.Bool.{cases_Bool}
use Rattle.std.proofs.lemmas.List.{length-append}
use Rattle.std.proofs.lemmas.List.Elements.{All-head, All-tail}
use Rattle.std.proofs.lemmas.Slice.Eq.{bytes_eq-Decides}
use Rattle.serde_json.specs.Data.{Data}
use Rattle.unl_compiled.specs.Places.{IsIndex, listed, one_project, places_from, places_of}
use Rattle.unl_compiled.specs.Toggles.{ToggleQuery, toggle_at, toggle_for, toggles_for}
use Rattle.unl_compiled.specs.declared.index.ProjectPlaces.{ProjectPlaces}
use Rattle.unl_compiled.proofs.Finding.{seen_toggles}
use Rattle.unl_delta.specs.View.{view_of}
use Rattle.unl_documents.specs.declared.feature.Feature.{Feature}
use Rattle.unl_documents.specs.declared.state.State.{State}
use Rattle.unl_tokens.specs.Names.{sees}
use Rattle.unl_tokens.specs.declared.projects.Projects.{Projects}
use Rattle.unl_tokens.specs.declared.projects.Projects.TheVariants.{All as Everything, Only}

-- The first item after a prefix is at the index that is the prefix's length.
item_behind : {T : Type 0} (prefix : List T) (x : T) (xs : List T) → slice_get (prefix ++ x ∷ xs) (length prefix) ≡ Some x
item_behind [] x xs = refl
item_behind (y ∷ prefix) x xs = item_behind prefix x xs

-- If all items of a list have a property, the item at an index has it.
valid_at : {T : Type 0} (P : T → Type 0) (xs : List T) (i : ℕ) (x : T) → All P xs → Some x ≡ slice_get xs i → P x
valid_at P [] i x h is = absurd cc
valid_at P (y ∷ xs) zero x h is = let same : y ≡ x = cc in subst P same (All-head P y xs h)
valid_at P (y ∷ xs) (suc i) x h is = valid_at P xs i x (All-tail P y xs h) is

module _ {A : Type 0} (gather : Feature → Option A) (project : List ℕ) where
  -- The result of `gather` for a feature of the project, otherwise `None`.
  abbrev here : Feature → Option A
  here f = cond (bytes_eq f.project project) (gather f) None

  -- The result of `gather` for the feature at a position.
  abbrev at : List Feature → ℕ → Option A
  at whole place = option_and_then gather (slice_get whole place)

  at_places : (prefix fs : List Feature) → filter_map (at (prefix ++ fs)) (places_from (length prefix) project fs) ≡ filter_map here fs
  at_places prefix [] = refl
  at_places prefix (f ∷ fs) = decided (bytes_eq f.project project) (rest (at_places (prefix ++ f ∷ []) fs))
    where
      rest : filter_map (at ((prefix ++ f ∷ []) ++ fs)) (places_from (length (prefix ++ f ∷ [])) project fs) ≡ filter_map here fs
          → filter_map (at (prefix ++ f ∷ fs)) (places_from (length prefix + 1) project fs) ≡ filter_map here fs
      rest more = subst (λ n. filter_map (at (prefix ++ f ∷ fs)) (places_from n project fs) ≡ filter_map here fs) (length-append prefix (f ∷ []))
          (subst (λ xs. filter_map (at xs) (places_from (length (prefix ++ f ∷ [])) project fs) ≡ filter_map here fs) (append_assoc prefix (f ∷ []) fs) more)

      decided : (b : Bool) → filter_map (at (prefix ++ f ∷ fs)) (places_from (length prefix + 1) project fs) ≡ filter_map here fs
          → filter_map (at (prefix ++ f ∷ fs)) (cond b (length prefix ∷ places_from (length prefix + 1) project fs) (places_from (length prefix + 1) project fs))
          ≡ cons_option (cond b (gather f) None) (filter_map here fs)
      decided true more = ap (λ o. cons_option (option_and_then gather o) (filter_map (at (prefix ++ f ∷ fs)) (places_from (length prefix + 1) project fs))) (item_behind prefix f fs) ∙ ap (cons_option (gather f)) more
      decided false more = more

-- A list of one project sees exactly that project.
is_seen : (project other : List ℕ) → sees (Only (project ∷ [])) other ≡ bytes_eq other project
is_seen project other =
    elim (cases_Bool (bytes_eq other project)) [
      | inl same ↦ let back : bytes_eq project other ≡ true = (bytes_eq-Decides project other).1 (sym ((bytes_eq-Decides other project).0 same)) in rw (same, back) refl
      | inr apart ↦
          elim (cases_Bool (bytes_eq project other)) [
            | inl same ↦
                let back : bytes_eq other project ≡ true = (bytes_eq-Decides other project).1 (sym ((bytes_eq-Decides project other).0 same)) in
                absurd (true≢false (sym back ∙ apart))
            | inr neither ↦ rw (apart, neither) refl
          ]
    ]

-- The toggles at the positions of the only project are those of the visible features.
one_project_toggles : (toggle : Feature → Option Data) (whole : State) (projects : Projects) (index : List ProjectPlaces) (places : List ℕ)
    → IsIndex whole.features index → Some places ≡ option_map (λ project. listed project index) (one_project projects)
    → filter_map (λ place. option_and_then toggle (slice_get whole.features place)) places ≡ filter_map toggle (view_of (sees projects) whole).features
one_project_toggles toggle whole Everything index places is_index found = absurd cc
one_project_toggles toggle whole (Only []) index places is_index found = absurd cc
one_project_toggles toggle whole (Only (project ∷ [])) index places is_index found =
    let listed_here : places ≡ listed project index = cc in
    let positions : places ≡ places_of project whole.features = listed_here ∙ is_index project in
    ap (filter_map (λ (place : ℕ). option_and_then toggle (slice_get whole.features place))) positions
    ∙ at_places toggle project [] whole.features
    ∙ seen_toggles toggle (λ f. bytes_eq f.project project) whole.features
    ∙ ap (filter_map toggle) (filter_same_tests whole.features)
  where
    filter_same_tests : (fs : List Feature) → filter (λ (f : Feature). bytes_eq f.project project) fs ≡ filter (λ (f : Feature). sees (Only (project ∷ [])) f.project) fs
    filter_same_tests [] = refl
    filter_same_tests (f ∷ fs) = λ i. cond (sym (is_seen project f.project) i) (f ∷ filter_same_tests fs i) (filter_same_tests fs i)
one_project_toggles toggle whole (Only (project ∷ other ∷ names)) index places is_index found = absurd cc

-- If the index gives positions for the query's projects, the toggles at these positions are the toggles that the query asks for.
pub places_found : {R : Type 0} (query : ToggleQuery) (index : List ProjectPlaces) (found : Option R) (now : R → List ℕ) → IsIndex query.state.features index
    → option_map now found ≡ option_map (λ project. listed project index) (one_project query.projects)
    → IfSome found (λ places. filter_map (toggle_at query) (now places) ≡ toggles_for query)
places_found query index None now is_index is = tt
places_found query index (Some places) now is_index is = one_project_toggles (toggle_for query) query.state query.projects index (now places) is_index is

-- If all items of a list have a property, an item found at a position has it.
pub found_valid : {R T : Type 0} (P : T → Type 0) (xs : List T) (i : ℕ) (found : Option R) (now : R → T) → All P xs → option_map now found ≡ slice_get xs i
    → IfSome found (λ x. P (now x))
found_valid P xs i None now h is = tt
found_valid P xs i (Some x) now h is = valid_at P xs i (now x) h is
