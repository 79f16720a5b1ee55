-- The project index, as positions are added one by one.
use Rattle.std.proofs.Common.{◌≡◌, ℕ, zero, suc, ◌+◌, ◌<◌, Bool, true, false, not, cond, List, [], ◌∷◌, ◌++◌, length, get_or, inl, inr, refl, sym, ap, subst, ◌∙◌, arith}
use Rattle.std.specs.Prelude.{slice_set}
use Rattle.std.specs.List.{prefix_len}
use Rattle.std.specs.Str.{bytes_eq}
use Rattle.std.proofs.lemmas.Bool.{cases_Bool}
use Rattle.std.proofs.lemmas.List.{append-nil}
use Rattle.std.proofs.lemmas.Slice.Eq.{bytes_eq-Decides}
use Rattle.unl_compiled.specs.Places.{listed}
use Rattle.unl_compiled.specs.declared.index.ProjectPlaces.{ProjectPlaces}

-- The entry is for another project.
abbrev pub differs : List ℕ → ProjectPlaces → Bool
differs project e = not (bytes_eq e.project project)

-- The positions that are added to those of project `p` if a position of `project` is added to the index.
abbrev pub more : List ℕ → List ℕ → ℕ → List ℕ
more project p place = cond (bytes_eq project p) (place ∷ []) []

apart_from : (a b p : List ℕ) → bytes_eq a b ≡ false → bytes_eq a p ≡ true → bytes_eq b p ≡ false
apart_from a b p apart same =
    elim (cases_Bool (bytes_eq b p)) [
      | inl is ↦
          let both : a ≡ b = (bytes_eq-Decides a p).0 same ∙ sym ((bytes_eq-Decides b p).0 is) in
          let clash : bytes_eq a b ≡ true = (bytes_eq-Decides a b).1 both in absurd (cc)
      | inr other ↦ other
    ]

-- If `new` lists for `p` what `es` lists and then `more`, the same holds if both lists begin with one more entry, for a project other than
-- `project`.
next_place : (e : ProjectPlaces) (project p : List ℕ) (place : ℕ) (es new : List ProjectPlaces) → bytes_eq e.project project ≡ false → listed p new ≡ listed p es ++ more project p place → listed p (e ∷ new) ≡ listed p (e ∷ es) ++ more project p place
next_place e project p place es new apart is =
    elim (cases_Bool (bytes_eq e.project p)) [
      | inl same ↦ let none = apart_from e.project project p apart same in rw (same, none) (sym (append-nil e.places))
      | inr other ↦ rw other is
    ]

pub new_project : (project p : List ℕ) (place : ℕ) (es : List ProjectPlaces) → length es ≡ prefix_len (differs project) es → listed p (es ++ record { project = project; places = place ∷ [] } ∷ []) ≡ listed p es ++ more project p place
new_project project p place [] all =
    elim (cases_Bool (bytes_eq project p)) [
      | inl same ↦ rw same refl
      | inr other ↦ rw other refl
    ]
new_project project p place (e ∷ es) all =
    elim (cases_Bool (bytes_eq e.project project)) [
      | inl same ↦ let none : prefix_len (differs project) (e ∷ es) ≡ 0 = rw same refl in absurd (omega arith)
      | inr apart ↦
          let count : prefix_len (differs project) (e ∷ es) ≡ 1 + prefix_len (differs project) es = rw apart refl in
          next_place e project p place es (es ++ record { project = project; places = place ∷ [] } ∷ []) apart (new_project project p place es (omega arith))
    ]

here : (e : ProjectPlaces) (project p : List ℕ) (place : ℕ) (es : List ProjectPlaces) → bytes_eq e.project project ≡ true → listed p (record { project = e.project; places = e.places ++ place ∷ [] } ∷ es) ≡ listed p (e ∷ es) ++ more project p place
here e project p place es same =
    let is : bytes_eq project p ≡ bytes_eq e.project p = ap (λ name. bytes_eq name p) (sym ((bytes_eq-Decides e.project project).0 same)) in
    elim (cases_Bool (bytes_eq e.project p)) [
      | inl there ↦ rw (is, there) refl
      | inr other ↦ rw (is, other) (sym (append-nil (listed p es)))
    ]

old_project : (project p : List ℕ) (place : ℕ) (es : List ProjectPlaces) (d : ProjectPlaces) (slot : ℕ) → slot ≡ prefix_len (differs project) es → slot < length es
    → listed p (slice_set es slot (record { project = (get_or es slot d).project; places = (get_or es slot d).places ++ place ∷ [] })) ≡ listed p es ++ more project p place
old_project project p place [] d slot is lt = absurd (omega arith)
old_project project p place (e ∷ es) d zero is lt =
    elim (cases_Bool (bytes_eq e.project project)) [
      | inl same ↦ here e project p place es same
      | inr apart ↦ let count : prefix_len (differs project) (e ∷ es) ≡ 1 + prefix_len (differs project) es = rw apart refl in absurd (omega arith)
    ]
old_project project p place (e ∷ es) d (suc slot) is lt =
    elim (cases_Bool (bytes_eq e.project project)) [
      | inl same ↦ let none : prefix_len (differs project) (e ∷ es) ≡ 0 = rw same refl in absurd (omega arith)
      | inr apart ↦
          let count : prefix_len (differs project) (e ∷ es) ≡ 1 + prefix_len (differs project) es = rw apart refl in
          next_place e project p place es (slice_set es slot (record { project = (get_or es slot d).project; places = (get_or es slot d).places ++ place ∷ [] })) apart (old_project project p place es d slot (omega arith) (omega arith))
    ]

-- Adding a position to a project's entry adds the position to those of that project, and of no other.
pub entry_more : (project p : List ℕ) (place : ℕ) (es : List ProjectPlaces) (entry : ProjectPlaces) (slot : ℕ) → slot ≡ prefix_len (differs project) es → slot < length es → get_or es slot entry ≡ entry
    → listed p (slice_set es slot (record { project = entry.project; places = entry.places ++ place ∷ [] })) ≡ listed p es ++ more project p place
entry_more project p place es entry slot is lt same =
    subst (λ (e : ProjectPlaces). listed p (slice_set es slot (record { project = e.project; places = e.places ++ place ∷ [] })) ≡ listed p es ++ more project p place) same (old_project project p place es entry slot is lt)
