-- The index where a key is, or would be inserted, in a list sorted by key, and how it splits the list.
use Rattle.std.proofs.Common.{◌≡◌, ◌<◌, ◌≤◌, ◌+◌, ◌&&◌, ℕ, zero, suc, Bool, true, false, not, cond, None, List, [], ◌∷◌, ◌++◌, length, map, take, drop, get_or, Ordering, Less, Equal, Greater, inl, inr, refl, sym, ap, ◌∙◌, arith}
use Rattle.std.specs.Prelude.{find, option_and_then, slice_get, slice_set, insert, remove}
use Rattle.std.specs.List.{AllByRecursion as Every, prefix_len}
use Rattle.std.specs.List.Sorted.{IsPartitionedBy, IsPartitionPoint}
use Rattle.std.specs.Option.{option_map_or}
use Rattle.std.specs.Ordering.{is_eq, is_lt, ordering_reverse}
use Rattle.std.specs.Str.{bytes_eq}
use Rattle.std.proofs.lemmas.Bool.{cases_Bool}
use Rattle.std.proofs.lemmas.Cmp.{nat_list_cmp_total}
use Rattle.std.proofs.lemmas.List.{set_split, take-append-drop}
use Rattle.std.proofs.lemmas.List.Sums.{prefix_len_is}
use Rattle.std.proofs.lemmas.Map.Text.{is_eq-slice_cmp}
use Rattle.unl_delta.specs.Keyed.{above, below, is_before, put, without, unless_above}
use Rattle.unl_delta.proofs.Every.{every_weaker, filter_all, filter_in, filter_none, filter_out}
use Rattle.unl_delta.proofs.Order.{cmp, Rises, less_apart, less_back, less_from_test, rises_from_rising}
use Rattle.unl_documents.specs.Parameters.{AreRising}

-- ---- the position of a key

pub each_at : {T : Type 0} (P : T → Type 0) (xs : List T) (i : ℕ) (d : T) → i < length xs → Every P xs → P (get_or xs i d)
each_at P [] i d inside h = absurd (omega (arith, inside))
each_at P (x ∷ xs) zero d inside h = h.0
each_at P (x ∷ xs) (suc i) d inside h = each_at P xs i d (omega (arith, inside)) h.1

-- in a sorted list, the items that come before the key are at the front
pub partitioned : {T : Type 0} (key : T → List ℕ) (k : List ℕ) (xs : List T) → Rises key xs → IsPartitionedBy (λ y. is_before (key y) k) xs
unfolding Rises
partitioned key k [] h i j d le lt before = absurd (omega arith)
partitioned key k (x ∷ xs) h zero zero d le lt before = before
partitioned {T} key k (x ∷ xs) h zero (suc j) d le lt before =
    let less : cmp (key x) (key (get_or xs j d)) ≡ Less = each_at (λ (y : T). cmp (key x) (key y) ≡ Less) xs j d (omega arith) h.0 in
    ap is_lt (nat_list_cmp_total.trans (key x) (key (get_or xs j d)) k less (less_from_test _ before))
partitioned key k (x ∷ xs) h (suc i) zero d le lt before = absurd (omega arith)
partitioned key k (x ∷ xs) h (suc i) (suc j) d le lt before = partitioned key k xs h.1 i j d (omega arith) (omega arith) before

-- a partition point of a test is the number of items at the front that pass it
pub point_is : {T : Type 0} (p : T → Bool) (xs : List T) (i : ℕ) → i ≤ length xs → IsPartitionPoint (λ x. p x ≡ true) (λ x. p x ≡ false) xs i → i ≡ prefix_len p xs
point_is p [] i le h = omega arith
point_is p (x ∷ xs) i le h = sym (prefix_len_is p (x ∷ xs) i x le (λ k lt. h.0 k x (omega arith) lt) (λ lt. h.1 i x (omega arith) lt))

-- ---- the items before the position, and after it

below_in : {T : Type 0} (key : T → List ℕ) (k : List ℕ) (y : T) (ys : List T) → is_before (key y) k ≡ true → below key k (y ∷ ys) ≡ y ∷ below key k ys
unfolding below
below_in key k y ys is = filter_in (λ z. is_before (key z) k) y ys is

below_out : {T : Type 0} (key : T → List ℕ) (k : List ℕ) (y : T) (ys : List T) → is_before (key y) k ≡ false → below key k (y ∷ ys) ≡ below key k ys
unfolding below
below_out key k y ys is = filter_out (λ z. is_before (key z) k) y ys is

above_in : {T : Type 0} (key : T → List ℕ) (k : List ℕ) (y : T) (ys : List T) → is_before k (key y) ≡ true → above key k (y ∷ ys) ≡ y ∷ above key k ys
unfolding above
above_in key k y ys is = filter_in (λ z. is_before k (key z)) y ys is

above_out : {T : Type 0} (key : T → List ℕ) (k : List ℕ) (y : T) (ys : List T) → is_before k (key y) ≡ false → above key k (y ∷ ys) ≡ above key k ys
unfolding above
above_out key k y ys is = filter_out (λ z. is_before k (key z)) y ys is

pub none_below : {T : Type 0} (key : T → List ℕ) (k : List ℕ) (xs : List T) → Every (λ y. cmp k (key y) ≡ Less) xs → below key k xs ≡ []
unfolding below
none_below {T} key k xs h =
    filter_none (λ y. is_before (key y) k) xs (every_weaker (λ (y : T). cmp k (key y) ≡ Less) (λ (y : T). is_before (key y) k ≡ false) xs (λ y less. ap is_lt (less_back k (key y) less)) h)

pub all_above : {T : Type 0} (key : T → List ℕ) (k : List ℕ) (xs : List T) → Every (λ y. cmp k (key y) ≡ Less) xs → above key k xs ≡ xs
unfolding above
all_above {T} key k xs h =
    filter_all (λ y. is_before k (key y)) xs (every_weaker (λ (y : T). cmp k (key y) ≡ Less) (λ (y : T). is_before k (key y) ≡ true) xs (λ y less. ap is_lt less) h)

-- if an item doesn't come before the key k, all items after it have keys greater than k
pub greater : {T : Type 0} (key : T → List ℕ) (k : List ℕ) (y : T) (ys : List T) → is_before (key y) k ≡ false → Every (λ z. cmp (key y) (key z) ≡ Less) ys → Every (λ z. cmp k (key z) ≡ Less) ys
greater {T} key k y ys before h = decided (cmp (key y) k) refl before
  where
    decided : (o : Ordering) → cmp (key y) k ≡ o → is_lt o ≡ false → Every (λ (z : T). cmp k (key z) ≡ Less) ys
    decided Less is not = absurd cc
    decided Equal is not =
        every_weaker (λ (z : T). cmp (key y) (key z) ≡ Less) (λ (z : T). cmp k (key z) ≡ Less) ys (λ z less. sym (nat_list_cmp_total.congr (key y) k (key z) is) ∙ less) h
    decided Greater is not =
        let back : cmp k (key y) ≡ Less = nat_list_cmp_total.antisymm k (key y) ∙ ap ordering_reverse is in
        every_weaker (λ (z : T). cmp (key y) (key z) ≡ Less) (λ (z : T). cmp k (key z) ≡ Less) ys (λ z less. nat_list_cmp_total.trans k (key y) (key z) back less) h

-- whether there is an item at index `place`, and its key doesn't come after k
abbrev pub represents : {T : Type 0} → (T → List ℕ) → List ℕ → List T → ℕ → Bool
represents key k xs place = option_map_or (λ y. not (is_before k (key y))) (slice_get xs place) false

-- the position splits the items into those that come before the key, the item with the key if there is one, and those that come after the
-- key
pub record Parts {T : Type 0} (key : T → List ℕ) (k : List ℕ) (xs : List T) (place : ℕ) (there : Bool) : Type 0 where
  pub low : take place xs ≡ below key k xs
  pub high : drop (cond there (suc place) place) xs ≡ above key k xs
  pub inside : there ≡ true → place < length xs

-- the split if the first item doesn't come before the key
parts_here : {T : Type 0} (key : T → List ℕ) (k : List ℕ) (y : T) (ys : List T) → Rises key (y ∷ ys) → is_before (key y) k ≡ false → Parts key k (y ∷ ys) zero (not (is_before k (key y)))
unfolding Rises
parts_here {T} key k y ys h before =
    let others : Every (λ (z : T). cmp k (key z) ≡ Less) ys = greater key k y ys before h.0 in
    let low : [] ≡ below key k (y ∷ ys) = sym (below_out key k y ys before ∙ none_below key k ys others) in
    elim (cases_Bool (is_before k (key y))) [
      | inl after ↦ rw after (record {
        low = low;
        high = sym (above_in key k y ys after ∙ ap (λ (zs : List T). y ∷ zs) (all_above key k ys others));
        inside = λ no. absurd cc;
      })
      | inr same ↦ rw same (record {
        low = low;
        high = sym (above_out key k y ys same ∙ all_above key k ys others);
        inside = λ yes. omega arith;
      })
    ]

-- the split after one more item at the front, which comes before the key
parts_more : {T : Type 0} (key : T → List ℕ) (k : List ℕ) (y : T) (ys : List T) (place : ℕ) (there : Bool) → is_before (key y) k ≡ true → Parts key k ys place there → Parts key k (y ∷ ys) (suc place) there
parts_more {T} key k y ys place there before rest =
    let after : is_before k (key y) ≡ false = ap is_lt (less_back (key y) k (less_from_test _ before)) in
    record {
      low = ap (λ (zs : List T). y ∷ zs) rest.low ∙ sym (below_in key k y ys before);
      high = over there rest.high ∙ sym (above_out key k y ys after);
      inside = λ yes. omega (arith, rest.inside yes);
    }
  where
    over : (t : Bool) → drop (cond t (suc place) place) ys ≡ above key k ys → drop (cond t (suc (suc place)) (suc place)) (y ∷ ys) ≡ above key k ys
    over true is = is
    over false is = is

pub parts_at : {T : Type 0} (key : T → List ℕ) (k : List ℕ) (xs : List T) (place : ℕ) → Rises key xs → place ≡ prefix_len (λ y. is_before (key y) k) xs → Parts key k xs place (represents key k xs place)
unfolding Rises
parts_at key k [] zero h is = record { low = sym (none_below key k [] tt); high = sym (all_above key k [] tt); inside = λ no. absurd cc }
parts_at key k [] (suc place) h is = absurd (omega (arith, is))
parts_at {T} key k (y ∷ ys) zero h is =
    elim (cases_Bool (is_before (key y) k)) [
      | inl before ↦
          let count : prefix_len (λ (z : T). is_before (key z) k) (y ∷ ys) ≡ 1 + prefix_len (λ (z : T). is_before (key z) k) ys = rw before refl in
          absurd (omega (arith, is, count))
      | inr not ↦ parts_here key k y ys h not
    ]
parts_at {T} key k (y ∷ ys) (suc place) h is =
    elim (cases_Bool (is_before (key y) k)) [
      | inl before ↦
          let count : prefix_len (λ (z : T). is_before (key z) k) (y ∷ ys) ≡ 1 + prefix_len (λ (z : T). is_before (key z) k) ys = rw before refl in
          parts_more key k y ys place (represents key k ys place) before (parts_at key k ys place h.1 (omega (arith, is, count)))
      | inr not ↦
          let count : prefix_len (λ (z : T). is_before (key z) k) (y ∷ ys) ≡ 0 = rw not refl in
          absurd (omega (arith, is, count))
    ]

-- ---- inserting an item, and removing one

-- the split that the code finds, for lists and keys that are equal to the given ones
pub parts_seen : {T : Type 0} (key : T → List ℕ) (k : List ℕ) (xs shown again : List T) (j i : List ℕ) (place : ℕ) (there known : Bool)
    → AreRising (map key xs) → shown ≡ xs → again ≡ xs → j ≡ k → i ≡ k → place ≡ prefix_len (λ y. is_before (key y) j) shown
    → there ≡ represents key i again place → there ≡ known → Parts key k xs place known
parts_seen {T} key k xs shown again j i place there known rising lists also named named_again is found known_is =
    let at : place ≡ prefix_len (λ (y : T). is_before (key y) k) xs =
    is ∙ ap (λ (zs : List T). prefix_len (λ (y : T). is_before (key y) j) zs) lists
    ∙ ap (λ (h : List ℕ). prefix_len (λ (y : T). is_before (key y) h) xs) named in
    let here : represents key k xs place ≡ known =
    sym (found ∙ ap (λ (zs : List T). represents key i zs place) also ∙ ap (λ (h : List ℕ). represents key h xs place) named_again) ∙ known_is in
    rw (← here) (parts_at key k xs place (rises_from_rising key xs rising) at)

pub replaced_is : {T : Type 0} (key : T → List ℕ) (x : T) (xs : List T) (place : ℕ) → Parts key (key x) xs place true → slice_set xs place x ≡ put key x xs
replaced_is {T} key x xs place parts =
    set_split xs place x (parts.inside refl) ∙ ap (λ (low : List T). low ++ x ∷ drop (suc place) xs) parts.low ∙ ap (λ (high : List T). below key (key x) xs ++ x ∷ high) parts.high

pub inserted_is : {T : Type 0} (key : T → List ℕ) (x : T) (xs : List T) (place : ℕ) → Parts key (key x) xs place false → insert xs place x ≡ put key x xs
inserted_is {T} key x xs place parts =
    ap (λ (low : List T). low ++ x ∷ drop place xs) parts.low ∙ ap (λ (high : List T). below key (key x) xs ++ x ∷ high) parts.high

pub removed_is : {T : Type 0} (key : T → List ℕ) (k : List ℕ) (xs : List T) (place : ℕ) → Parts key k xs place true → remove xs place ≡ without key k xs
removed_is {T} key k xs place parts =
    ap (λ (low : List T). low ++ drop (suc place) xs) parts.low ∙ ap (λ (high : List T). below key k xs ++ high) parts.high

pub none_is : {T : Type 0} (key : T → List ℕ) (k : List ℕ) (xs : List T) (place : ℕ) → Parts key k xs place false → xs ≡ without key k xs
none_is {T} key k xs place parts =
    sym (take-append-drop place xs) ∙ ap (λ (low : List T). low ++ drop place xs) parts.low ∙ ap (λ (high : List T). below key k xs ++ high) parts.high

-- ---- the item with the key

-- among items with greater keys, none has the key
pub none_found : {T : Type 0} (key : T → List ℕ) (k : List ℕ) (xs : List T) → Every (λ y. cmp k (key y) ≡ Less) xs → find (λ y. bytes_eq (key y) k) xs ≡ None
none_found key k [] h = refl
none_found key k (y ∷ ys) h = rw (less_apart k (key y) h.0) (none_found key k ys h.1)

-- if neither of two keys comes before the other, they are equal
same_key : (a b : List ℕ) → is_before a b ≡ false → is_before b a ≡ false → bytes_eq a b ≡ true
same_key a b before after = sym (is_eq-slice_cmp a b) ∙ decided (cmp a b) (cmp b a) (nat_list_cmp_total.antisymm a b) before after
  where
    decided : (o back : Ordering) → o ≡ ordering_reverse back → is_lt o ≡ false → is_lt back ≡ false → is_eq o ≡ true
    decided Less back turned first second = absurd cc
    decided Equal back turned first second = refl
    decided Greater Less turned first second = absurd cc
    decided Greater Equal turned first second = absurd cc
    decided Greater Greater turned first second = absurd cc

-- two keys are equal if and only if neither comes before the other
same_is : (a b : List ℕ) → (not (is_before a b) && not (is_before b a)) ≡ bytes_eq a b
same_is a b = sym (decided (cmp a b) (cmp b a) (nat_list_cmp_total.antisymm b a)) ∙ is_eq-slice_cmp a b
  where
    decided : (o back : Ordering) → back ≡ ordering_reverse o → is_eq o ≡ (not (is_lt o) && not (is_lt back))
    decided Less back turned = refl
    decided Equal back turned = sym (ap (λ (b : Ordering). not (is_lt b)) turned)
    decided Greater back turned = sym (ap (λ (b : Ordering). not (is_lt b)) turned)

pub found_at : {T : Type 0} (key : T → List ℕ) (k : List ℕ) (xs : List T) (place : ℕ) → Rises key xs → place ≡ prefix_len (λ y. is_before (key y) k) xs
    → option_and_then (unless_above key k) (slice_get xs place) ≡ find (λ y. bytes_eq (key y) k) xs
unfolding Rises
found_at key k [] zero h is = refl
found_at key k [] (suc place) h is = refl
found_at {T} key k (y ∷ ys) zero h is =
    elim (cases_Bool (is_before (key y) k)) [
      | inl before ↦
          let count : prefix_len (λ (z : T). is_before (key z) k) (y ∷ ys) ≡ 1 + prefix_len (λ (z : T). is_before (key z) k) ys = rw before refl in
          absurd (omega (arith, is, count))
      | inr before ↦
          elim (cases_Bool (is_before k (key y))) [
            | inl after ↦
                let apart : bytes_eq (key y) k ≡ false = less_apart k (key y) (less_from_test _ after) in
                rw (after, apart) (sym (none_found key k ys (greater key k y ys before h.0)))
            | inr after ↦ rw (after, same_key (key y) k before after) refl
          ]
    ]
found_at {T} key k (y ∷ ys) (suc place) h is =
    elim (cases_Bool (is_before (key y) k)) [
      | inl before ↦
          let count : prefix_len (λ (z : T). is_before (key z) k) (y ∷ ys) ≡ 1 + prefix_len (λ (z : T). is_before (key z) k) ys = rw before refl in
          let apart : bytes_eq (key y) k ≡ false = sym (is_eq-slice_cmp (key y) k) ∙ ap is_eq (less_from_test _ before) in
          rw apart (found_at key k ys place h.1 (omega (arith, is, count)))
      | inr not ↦
          let count : prefix_len (λ (z : T). is_before (key z) k) (y ∷ ys) ≡ 0 = rw not refl in
          absurd (omega (arith, is, count))
    ]
