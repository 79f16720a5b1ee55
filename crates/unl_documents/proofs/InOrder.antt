-- The function `in_order` of the specification sorts a list by key or finds the least duplicate key.
use Rattle.std.proofs.Common.{◌≡◌, ℕ, true, false, List, [], ◌∷◌, map, Option, Some, None, Ok, Err, Ordering, is_lt, nat_cmp, refl, sym, ap, subst, ◌∙◌}
use Rattle.std.specs.Prelude.{◌≢◌, IfOk, IfErr, option_map, if◌then◌else◌}
use Rattle.std.specs.Cmp.{IsStrictWeakOrder}
use Rattle.std.specs.Cmp.Lexicographic.{slice_cmp}
use Rattle.std.specs.List.{AllByRecursion}
use Rattle.std.specs.List.Sorted.{IsPermutation}
use Rattle.std.proofs.lemmas.Cmp.{nat_list_cmp_total}
use Rattle.std.proofs.lemmas.List.Sorted.{ranks_by, IsPermutation-refl, IsPermutation-trans, IsPermutation-cons, IsPermutation-middle}
use Rattle.unl_documents.specs.declared.field.Field.{Field}
use Rattle.unl_documents.specs.declared.fault.BadDocument.{BadDocument}
use Rattle.unl_documents.specs.declared.fault.BadDocument.TheVariants.{Memory, DuplicateName}
use Rattle.unl_documents.specs.Parameters.{AreRising}
use Rattle.unl_documents.specs.Reading.{Reading, Gives}
use Rattle.unl_documents.specs.Sorting.{IsLeastDuplicate, IsSorting, put_in, sorted, first_tie, unless_twice, in_order}
use Rattle.unl_documents.proofs.OneOrder.{one_sorting, not_twice, same_key_at}
use Rattle.unl_documents.proofs.Ties.{IsAscending, least_in, sorting_in}

abbrev cmp : List ℕ → List ℕ → Ordering
cmp = slice_cmp nat_cmp

by_keys : IsStrictWeakOrder (λ a b. is_lt (cmp a b))
by_keys = ranks_by nat_list_cmp_total (λ (k : List ℕ). k)

keep_put : {T : Type 0} (key : T → List ℕ) (P : List ℕ → Type 0) (x : T) (ys : List T) → P (key x) → AllByRecursion P (map key ys) → AllByRecursion P (map key (put_in key x ys))
unfolding put_in
keep_put key P x [] here all = (here, tt)
keep_put key P x (y ∷ ys) here all =
    elim (is_lt (cmp (key y) (key x))) as (λ t. AllByRecursion P (map key (if t then y ∷ put_in key x ys else x ∷ y ∷ ys)))
    [ true ↦ (all.0, keep_put key P x ys here all.1) | false ↦ (here, all) ]

up_from : (x y : List ℕ) (keys : List (List ℕ)) → is_lt (cmp y x) ≡ false → AllByRecursion (λ o. is_lt (cmp o y) ≡ false) keys → AllByRecursion (λ o. is_lt (cmp o x) ≡ false) keys
up_from x y [] above all = tt
up_from x y (o ∷ keys) above all = (by_keys.chain o y x all.0 above, up_from x y keys above all.1)

ascending_put : {T : Type 0} (key : T → List ℕ) (x : T) (ys : List T) → IsAscending (map key ys) → IsAscending (map key (put_in key x ys))
unfolding put_in IsAscending
ascending_put key x [] up = (tt, tt)
ascending_put key x (y ∷ ys) up =
    elim (is_lt (cmp (key y) (key x))) as (λ t. is_lt (cmp (key y) (key x)) ≡ t → IsAscending (map key (if t then y ∷ put_in key x ys else x ∷ y ∷ ys))) [
      | true ↦ λ below. (keep_put key (λ o. is_lt (cmp o (key y)) ≡ false) x ys (by_keys.one_way (key y) (key x) below) up.0, ascending_put key x ys up.1)
      | false ↦ λ above. ((above, up_from (key x) (key y) (map key ys) above up.0), up)
    ] refl

put_moved : {T : Type 0} (key : T → List ℕ) (x : T) (ys : List T) → IsPermutation (x ∷ ys) (put_in key x ys)
unfolding put_in
put_moved key x [] = IsPermutation-refl (x ∷ [])
put_moved key x (y ∷ ys) =
    elim (is_lt (cmp (key y) (key x))) as (λ t. IsPermutation (x ∷ y ∷ ys) (if t then y ∷ put_in key x ys else x ∷ y ∷ ys)) [
      | true ↦ IsPermutation-trans (x ∷ y ∷ ys) (y ∷ x ∷ ys) (y ∷ put_in key x ys) (IsPermutation-middle (x ∷ []) y ys) (IsPermutation-cons y (x ∷ ys) (put_in key x ys) (put_moved key x ys))
      | false ↦ IsPermutation-refl (x ∷ y ∷ ys)
    ]

sorted_ascending : {T : Type 0} (key : T → List ℕ) (xs : List T) → IsAscending (map key (sorted key xs))
unfolding sorted IsAscending
sorted_ascending key [] = tt
sorted_ascending key (x ∷ xs) = ascending_put key x (sorted key xs) (sorted_ascending key xs)

sorted_moved : {T : Type 0} (key : T → List ℕ) (xs : List T) → IsPermutation xs (sorted key xs)
unfolding sorted
sorted_moved key [] = IsPermutation-refl []
sorted_moved key (x ∷ xs) = IsPermutation-trans (x ∷ xs) (x ∷ sorted key xs) (put_in key x (sorted key xs)) (IsPermutation-cons x xs (sorted key xs) (sorted_moved key xs)) (put_moved key x (sorted key xs))

least : {T : Type 0} (key : T → List ℕ) (xs : List T) (t : T) → first_tie key (sorted key xs) ≡ Some t → IsLeastDuplicate (key t) (map key xs)
least key xs t found = least_in key xs (sorted key xs) t (sorted_moved key xs) (sorted_ascending key xs) found

is_sorting : {T : Type 0} (key : T → List ℕ) (xs : List T) → first_tie key (sorted key xs) ≡ None → IsSorting key xs (sorted key xs)
is_sorting key xs none = sorting_in key xs (sorted key xs) (sorted_moved key xs) (sorted_ascending key xs) none

abbrev found_as : {T : Type 0} → (T → List ℕ) → (List ℕ → List ℕ) → Field → List T → Option T → Reading (List T)
found_as key spelled field xs found = unless_twice field (option_map (λ x. spelled (key x)) found) (sorted key xs)

pub order_from_sorting : {T : Type 0} (key : T → List ℕ) (spelled : List ℕ → List ℕ) (field : Field) (xs ys : List T) → IsSorting key xs ys → in_order key spelled field xs ≡ Ok ys
unfolding in_order
order_from_sorting {T} key spelled field xs ys sorting =
    elim (first_tie key (sorted key xs)) as (λ (o : Option T). first_tie key (sorted key xs) ≡ o → found_as key spelled field xs o ≡ Ok ys) [
      | Some t ↦ λ found. absurd (not_twice key xs ys (key t) sorting (least key xs t found))
      | None ↦ λ none. ap Ok (one_sorting key xs (sorted key xs) ys (is_sorting key xs none) sorting)
    ] refl

pub order_from_twice : {T : Type 0} (key : T → List ℕ) (spelled : List ℕ → List ℕ) (field : Field) (xs : List T) (k : List ℕ) → IsLeastDuplicate k (map key xs) → in_order key spelled field xs ≡ Err (DuplicateName field (spelled k))
unfolding in_order
order_from_twice {T} key spelled field xs k twice =
    elim (first_tie key (sorted key xs)) as (λ (o : Option T). first_tie key (sorted key xs) ≡ o → found_as key spelled field xs o ≡ Err (DuplicateName field (spelled k))) [
      | Some t ↦ λ found. ap (λ (name : List ℕ). Err (DuplicateName field (spelled name))) (same_key_at _ (key t) k (map key xs) refl (least key xs t found) twice)
      | None ↦ λ none. absurd (not_twice key xs (sorted key xs) k (is_sorting key xs none) twice)
    ] refl

pub sorting_from_order : {T : Type 0} (key : T → List ℕ) (spelled : List ℕ → List ℕ) (field : Field) (xs ys : List T) → in_order key spelled field xs ≡ Ok ys → IsSorting key xs ys
unfolding in_order
sorting_from_order {T} key spelled field xs ys is =
    elim (first_tie key (sorted key xs)) as (λ (o : Option T). first_tie key (sorted key xs) ≡ o → found_as key spelled field xs o ≡ Ok ys → IsSorting key xs ys) [
      | Some t ↦ λ found other. absurd cc
      | None ↦ λ none same. let e : sorted key xs ≡ ys = cc same in subst (λ (zs : List T). IsSorting key xs zs) e (is_sorting key xs none)
    ] refl is

pub twice_from_order : {T : Type 0} (key : T → List ℕ) (spelled : List ℕ → List ℕ) (field : Field) (xs : List T) (e : BadDocument) → in_order key spelled field xs ≡ Err e → (k : List ℕ) × IsLeastDuplicate k (map key xs) × (e ≡ DuplicateName field (spelled k))
unfolding in_order
twice_from_order {T} key spelled field xs e is =
    elim (first_tie key (sorted key xs)) as (λ (o : Option T). first_tie key (sorted key xs) ≡ o → found_as key spelled field xs o ≡ Err e → (k : List ℕ) × IsLeastDuplicate k (map key xs) × (e ≡ DuplicateName field (spelled k))) [
      | Some t ↦ λ found same. (key t, least key xs t found, cc)
      | None ↦ λ none other. absurd cc
    ] refl is

-- A function that sorts the items, or names the least duplicate key, returns what `in_order` gives, unless it runs out of memory.
pub gives_order : {T : Type 0} (key : T → List ℕ) (spelled : List ℕ → List ℕ) (field : Field) (xs : List T) (result : Reading (List T)) → IfOk result (IsSorting key xs)
    → IfErr result (λ e. e ≢ Memory → (k : List ℕ) × IsLeastDuplicate k (map key xs) × (e ≡ DuplicateName field (spelled k))) → Gives result (in_order key spelled field xs)
gives_order key spelled field xs (Ok ys) sorting twice = order_from_sorting key spelled field xs ys sorting
gives_order key spelled field xs (Err e) sorting twice = λ known. let t = twice known in order_from_twice key spelled field xs t.0 t.1 ∙ ap Err (sym t.2)

pub rising_if_ok : {T : Type 0} (key : T → List ℕ) (xs : List T) (result : Reading (List T)) → IfOk result (IsSorting key xs) → IfOk result (λ ys. AreRising (map key ys))
rising_if_ok key xs (Ok ys) sorting = sorting.rising
rising_if_ok key xs (Err e) sorting = tt
