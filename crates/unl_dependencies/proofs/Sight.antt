-- The lookup of a name among the features of visible projects.
use Rattle.std.proofs.Common.{◌≡◌, ℕ, Bool, true, false, List, [], ◌∷◌, map, None, Less, nat_cmp, inl, inr, refl, ap, sym, ◌∙◌}
use Rattle.std.specs.Prelude.{filter, option_and_then}
use Rattle.std.specs.Cmp.Lexicographic.{slice_cmp}
use Rattle.std.specs.List.{AllByRecursion}
use Rattle.std.specs.List.Sorted.{IsStrictlySortedBy}
use Rattle.std.specs.Ordering.{is_eq}
use Rattle.std.specs.Str.{bytes_eq}
use Rattle.std.proofs.lemmas.Bool.{cases_Bool}
use Rattle.std.proofs.lemmas.Map.Text.{is_eq-slice_cmp}
use Rattle.std.proofs.lemmas.Slice.Eq.{bytes_eq-Decides}
use Rattle.unl_documents.specs.declared.feature.Feature.{Feature}
use Rattle.unl_documents.specs.States.{name_key}
use Rattle.unl_dependencies.specs.Evaluation.{feature_named}
use Rattle.unl_dependencies.specs.Laws.{if_seen}

abbrev seen : (List ℕ → Bool) → List Feature → List Feature
seen sees fs = filter (λ f. sees f.project) fs

all_above : (least name : List ℕ) (sees : List ℕ → Bool) (fs : List Feature) → least ≡ name → AllByRecursion (λ n. slice_cmp nat_cmp least n ≡ Less) (map name_key fs) → feature_named name (seen sees fs) ≡ None
all_above least name sees [] is above = refl
all_above least name sees (x ∷ xs) is above =
    let later = all_above least name sees xs is above.1 in
    let below : slice_cmp nat_cmp name x.name ≡ Less = ap (λ n. slice_cmp nat_cmp n x.name) (sym is) ∙ above.0 in
    let apart : bytes_eq name x.name ≡ false = sym (is_eq-slice_cmp name x.name) ∙ ap is_eq below in
    elim (cases_Bool (bytes_eq x.name name)) [
      | inl same ↦
          let equal : bytes_eq name x.name ≡ true = (bytes_eq-Decides name x.name).1 (sym ((bytes_eq-Decides x.name name).0 same)) in absurd (cc)
      | inr not ↦
          elim (cases_Bool (sees x.project)) [
            | inl is_seen ↦ rw (is_seen, not) later
            | inr hidden ↦ rw hidden later
          ]
    ]

pub seen_among_all : (sees : List ℕ → Bool) (name : List ℕ) (fs : List Feature) → IsStrictlySortedBy (slice_cmp nat_cmp) (map name_key fs) → feature_named name (seen sees fs) ≡ option_and_then (if_seen sees) (feature_named name fs)
unfolding IsStrictlySortedBy
seen_among_all sees name [] rising = refl
seen_among_all sees name (x ∷ xs) rising =
    elim (cases_Bool (bytes_eq x.name name)) [
      | inl same ↦
          elim (cases_Bool (sees x.project)) [
            | inl is_seen ↦ rw (is_seen, same, is_seen) refl
            | inr hidden ↦ rw (hidden, same, hidden) (all_above x.name name sees xs ((bytes_eq-Decides x.name name).0 same) rising.0)
          ]
      | inr not ↦
          let later = seen_among_all sees name xs rising.1 in
          elim (cases_Bool (sees x.project)) [
            | inl is_seen ↦ rw (is_seen, not) later
            | inr hidden ↦ rw (hidden, not) later
          ]
    ]
