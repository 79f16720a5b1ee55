-- The result of a binary search among items with strictly ascending keys.
use Rattle.std.proofs.Common.{◌≡◌, ℕ, zero, suc, ◌+◌, ◌<◌, ◌≤◌, Bool, true, false, List, [], ◌∷◌, map, length, get_or, Option, Some, None, Less, nat_cmp, inl, inr, refl, sym, ap, ◌∙◌, arith, cond}
use Rattle.std.specs.Prelude.{option_and_then, slice_get}
use Rattle.std.specs.Cmp.Lexicographic.{slice_cmp}
use Rattle.std.specs.List.{AllByRecursion, find, list_any, prefix_len}
use Rattle.std.specs.List.Sorted.{IsStrictlySortedBy, IsPartitionedBy, IsPartitionPoint}
use Rattle.std.specs.Option.{option_map_or}
use Rattle.std.specs.Ordering.{is_lt, is_eq}
use Rattle.std.specs.Str.{bytes_eq}
use Rattle.std.specs.declared.cmp.Ordering.{Ordering}
use Rattle.std.specs.declared.cmp.Ordering.TheVariants.{Equal, Greater}
use Rattle.std.proofs.lemmas.Bool.{cases_Bool}
use Rattle.std.proofs.lemmas.Cmp.{nat_list_cmp_total}
use Rattle.std.proofs.lemmas.Map.Text.{is_eq-slice_cmp}
use Rattle.std.proofs.lemmas.Slice.Eq.{bytes_eq-Decides}

-- The item's key is below `k`.
abbrev pub is_below : {X : Type 0} → (X → List ℕ) → List ℕ → X → Bool
is_below key k x = is_lt (slice_cmp nat_cmp (key x) k)

-- The item's key is `k`.
abbrev pub has_key : {X : Type 0} → (X → List ℕ) → List ℕ → X → Bool
has_key key k x = bytes_eq (key x) k

-- The item, if its key is `k`.
abbrev pub if_key : {X : Type 0} → (X → List ℕ) → List ℕ → X → Option X
if_key key k x = cond (has_key key k x) (Some x) None

is_less : (o : Ordering) → is_lt o ≡ true → o ≡ Less
is_less Less h = refl
is_less Equal h = absurd (cc)
is_less Greater h = absurd (cc)

later : {X : Type 0} (key : X → List ℕ) (k : List ℕ) (xs : List X) → AllByRecursion (λ y. slice_cmp nat_cmp k y ≡ Less) (map key xs) → (j : ℕ) (d : X) → j < length xs → slice_cmp nat_cmp k (key (get_or xs j d)) ≡ Less
later key k [] above j d lt = absurd (omega arith)
later key k (x ∷ xs) above zero d lt = above.0
later key k (x ∷ xs) above (suc j) d lt = later key k xs above.1 j d (omega arith)

pub partitioned : {X : Type 0} (key : X → List ℕ) (k : List ℕ) (xs : List X) → IsStrictlySortedBy (slice_cmp nat_cmp) (map key xs) → IsPartitionedBy (is_below key k) xs
unfolding IsStrictlySortedBy
partitioned key k [] rising i j d le lt p = absurd (omega arith)
partitioned key k (x ∷ xs) rising zero zero d le lt p = p
partitioned key k (x ∷ xs) rising zero (suc j) d le lt p = ap is_lt (nat_list_cmp_total.trans (key x) (key (get_or xs j d)) k (later key (key x) xs rising.0 j d (omega arith)) (is_less _ p))
partitioned key k (x ∷ xs) rising (suc i) zero d le lt p = absurd (omega arith)
partitioned key k (x ∷ xs) rising (suc i) (suc j) d le lt p = partitioned key k xs rising.1 i j d (omega arith) (omega arith) p

pub prefix_is : {X : Type 0} (p : X → Bool) (xs : List X) (i : ℕ) → i ≤ length xs → IsPartitionPoint (λ x. p x ≡ true) (λ x. p x ≡ false) xs i → i ≡ prefix_len p xs
prefix_is p [] i le h = omega arith
prefix_is p (x ∷ xs) zero le h = rw (h.1 0 x (omega arith) (omega arith)) refl
prefix_is p (x ∷ xs) (suc i) le h =
    let rest : i ≡ prefix_len p xs = prefix_is p xs i (omega arith) (λ k d low high. h.0 (suc k) d (omega arith) (omega arith), λ k d low high. h.1 (suc k) d (omega arith) (omega arith)) in
    rw (h.0 0 x (omega arith) (omega arith)) (omega arith)

-- ---- the item at the index

apart : {X : Type 0} (key : X → List ℕ) (k : List ℕ) (x : X) (o : Ordering) → slice_cmp nat_cmp (key x) k ≡ o → has_key key k x ≡ is_eq o
apart key k x o is = sym (is_eq-slice_cmp (key x) k) ∙ ap is_eq is

not_later : {X : Type 0} (key : X → List ℕ) (k low : List ℕ) (y : X) → slice_cmp nat_cmp low k ≡ Greater → slice_cmp nat_cmp low (key y) ≡ Less → has_key key k y ≡ false
not_later key k low y after below =
    elim (cases_Bool (has_key key k y)) [
      | inl same ↦
          let is : key y ≡ k = (bytes_eq-Decides (key y) k).0 same in
          let clash : Less ≡ Greater = sym below ∙ ap (slice_cmp nat_cmp low) is ∙ after in absurd (cc)
      | inr not ↦ not
    ]

none_later : {X : Type 0} (key : X → List ℕ) (k low : List ℕ) (xs : List X) → slice_cmp nat_cmp low k ≡ Greater → AllByRecursion (λ y. slice_cmp nat_cmp low y ≡ Less) (map key xs) → (find (has_key key k) xs ≡ None) × (list_any (has_key key k) xs ≡ false)
none_later key k low [] after above = (refl, refl)
none_later key k low (y ∷ ys) after above =
    let others = none_later key k low ys after above.1 in
    let not : has_key key k y ≡ false = not_later key k low y after above.0 in
    (rw not others.0, rw not others.1)

-- The item at the index that the binary search finds has the key `k` exactly if any of the items has this key. It is then the first such
-- item.
abbrev pub IsDecidedByItem : {X : Type 0} → (X → List ℕ) → List ℕ → List X → Type 0
IsDecidedByItem key k xs = (option_and_then (if_key key k) (slice_get xs (prefix_len (is_below key k) xs)) ≡ find (has_key key k) xs)
    × (option_map_or (has_key key k) (slice_get xs (prefix_len (is_below key k) xs)) false ≡ list_any (has_key key k) xs)

decided_by_item_at : {X : Type 0} (key : X → List ℕ) (k : List ℕ) (x : X) (xs : List X) (o : Ordering) → slice_cmp nat_cmp (key x) k ≡ o → AllByRecursion (λ y. slice_cmp nat_cmp (key x) y ≡ Less) (map key xs) → IsDecidedByItem key k xs → IsDecidedByItem key k (x ∷ xs)
decided_by_item_at key k x xs Less is above others =
    let not : has_key key k x ≡ false = apart key k x Less is in
    let next : 1 + prefix_len (is_below key k) xs ≡ suc (prefix_len (is_below key k) xs) = omega arith in
    (rw (is, not, next) others.0, rw (is, not, next) others.1)
decided_by_item_at key k x xs Equal is above others =
    let same : has_key key k x ≡ true = apart key k x Equal is in
    (rw (is, same) refl, rw (is, same) refl)
decided_by_item_at key k x xs Greater is above others =
    let not : has_key key k x ≡ false = apart key k x Greater is in
    let none = none_later key k (key x) xs is above in
    (rw (is, not, none.0) refl, rw (is, not, none.1) refl)

pub decided_by_search : {X : Type 0} (key : X → List ℕ) (k : List ℕ) (xs : List X) → IsStrictlySortedBy (slice_cmp nat_cmp) (map key xs) → IsDecidedByItem key k xs
unfolding IsStrictlySortedBy
decided_by_search key k [] rising = (refl, refl)
decided_by_search key k (x ∷ xs) rising = decided_by_item_at key k x xs (slice_cmp nat_cmp (key x) k) refl rising.0 (decided_by_search key k xs rising.1)
