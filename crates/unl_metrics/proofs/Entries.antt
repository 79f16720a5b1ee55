-- Entries in the order of their keys: lookups and insertions.
use Rattle.std.proofs.Common.{◌≡◌, ℕ, zero, suc, ◌+◌, ◌<◌, ◌≤◌, Bool, true, false, cond, ◌&&◌, T, List, [], ◌∷◌, map, length, get_or, refl, sym, ap, subst, ◌∙◌, arith}
use Rattle.std.specs.Prelude.{Option, Some, None, insert, slice_set, slice_get}
use Rattle.std.specs.Option.{option_map_or}
use Rattle.std.specs.Cmp.{IsTotalOrder}
use Rattle.std.specs.FinMap.Entries.{put, find, is_sorted, below_all, by_order}
use Rattle.std.proofs.Math.ListN.{get_or-map}
use Rattle.std.proofs.lemmas.List.{length-map}
use Rattle.std.specs.List.{prefix_len}
use Rattle.std.specs.List.Sorted.{IsPartitionedBy, IsPartitionPoint}
use Rattle.std.specs.Ordering.{is_lt, is_eq, ordering_reverse}
use Rattle.std.specs.declared.cmp.Ordering.{Ordering}
use Rattle.std.specs.declared.cmp.Ordering.TheVariants.{Less, Equal, Greater}
use Rattle.unl_metrics.specs.Book.{with_entry, place}

-- ---- Bools and orders

pub first_of : (a b : Bool) → T (a && b) → T a
first_of true b h = tt
first_of false b h = absurd h

pub second_of : (a b : Bool) → T (a && b) → T b
second_of true b h = h
second_of false b h = absurd h

pub both_of : (a b : Bool) → T a → T b → T (a && b)
both_of true b h g = g
both_of false b h g = absurd h

pub each_true : (a b : Bool) → (a && b) ≡ true → (a ≡ true) × (b ≡ true)
each_true true b e = (refl, e)
each_true false b e = absurd (subst T (sym e) tt)

pub less : (o : Ordering) → T (is_lt o) → o ≡ Less
less Less h = refl
less Equal h = absurd h
less Greater h = absurd h

pub is_less : (o : Ordering) → is_lt o ≡ true → o ≡ Less
is_less Less e = refl
is_less Equal e = absurd (subst T (sym e) tt)
is_less Greater e = absurd (subst T (sym e) tt)

-- ---- the first key that doesn't come before

-- If `below_all` holds for a key x and a list, the key at each index of the list comes after x.
below_at : {K X : Type 0} (R : K → K → Ordering) (x : K) (es : List (K × X)) → T (below_all R x es) → (j : ℕ) (d : K × X) → j < length es → R x (get_or es j d).0 ≡ Less
below_at R x [] h j d lt = absurd (omega arith)
below_at R x (e ∷ es) h zero d lt = less _ (first_of _ _ h)
below_at R x (e ∷ es) h (suc j) d lt = below_at R x es (second_of _ _ h) j d (omega arith)

pub partitioned : {K X : Type 0} (R : K → K → Ordering) → IsTotalOrder R → (k : K) (es : List (K × X)) → T (is_sorted R es) → IsPartitionedBy (λ e. is_lt (R e.0 k)) es
partitioned R o k [] s i j d le lt p = absurd (omega arith)
partitioned R o k (e ∷ es) s zero zero d le lt p = p
partitioned R o k (e ∷ es) s zero (suc j) d le lt p = ap is_lt (o.trans e.0 (get_or es j d).0 k (below_at R e.0 es (first_of _ _ s) j d (omega arith)) (is_less _ p))
partitioned R o k (e ∷ es) s (suc i) zero d le lt p = absurd (omega arith)
partitioned R o k (e ∷ es) s (suc i) (suc j) d le lt p = partitioned R o k es (second_of _ _ s) i j d (omega arith) (omega arith) p

pub prefix_is : {Y : Type 0} (p : Y → Bool) (xs : List Y) (i : ℕ) → i ≤ length xs → IsPartitionPoint (λ y. p y ≡ true) (λ y. p y ≡ false) xs i → i ≡ prefix_len p xs
prefix_is p [] i le h = omega arith
prefix_is p (x ∷ xs) zero le h = rw (h.1 0 x (omega arith) (omega arith)) refl
prefix_is p (x ∷ xs) (suc i) le h =
    let rest : i ≡ prefix_len p xs = prefix_is p xs i (omega arith) (λ k d low high. h.0 (suc k) d (omega arith) (omega arith), λ k d low high. h.1 (suc k) d (omega arith) (omega arith)) in
    rw (h.0 0 x (omega arith) (omega arith)) (omega arith)

-- ---- insertion at a key

-- The entry at the position where the key would be inserted has this key.
abbrev pub is_present : {K X : Type 0} → (K → K → Ordering) → K → List (K × X) → Bool
is_present R k es = option_map_or (λ e. is_eq (R e.0 k)) (slice_get es (place R k es)) false

step_new : {Y : Type 0} (r : Ordering) (y e replaced : Y) (es rest : List Y) (n : ℕ) (test : Y → Bool) → test e ≡ is_eq r → (option_map_or test (slice_get es n) false ≡ false → rest ≡ insert es n y)
    → option_map_or test (slice_get (e ∷ es) (cond (is_lt r) (1 + n) 0)) false ≡ false → by_order (ordering_reverse r) (y ∷ e ∷ es) (replaced ∷ es) (e ∷ rest) ≡ insert (e ∷ es) (cond (is_lt r) (1 + n) 0) y
step_new Less y e replaced es rest n test is more h =
    let next : 1 + n ≡ suc n = omega arith in
    rw next (ap (λ (ys : List _). e ∷ ys) (more (rw next at h)))
step_new Equal y e replaced es rest n test is more h = absurd (subst T (sym is ∙ h) tt)
step_new Greater y e replaced es rest n test is more h = refl

pub put_new : {K X : Type 0} (R : K → K → Ordering) → IsTotalOrder R → (k : K) (x : X) (es : List (K × X)) → is_present R k es ≡ false → put R k x es ≡ insert es (place R k es) (k, x)
put_new R o k x [] h = refl
put_new R o k x (e ∷ es) h = rw (o.antisymm k e.0) (step_new (R e.0 k) (k, x) e (e.0, x) es (put R k x es) (place R k es) (λ f. is_eq (R f.0 k)) refl (put_new R o k x es) h)

step_old : {Y : Type 0} (r : Ordering) (y e d replaced : Y) (es rest : List Y) (n : ℕ) (test : Y → Bool) (with : Y → Y) → test e ≡ is_eq r → replaced ≡ with e → (option_map_or test (slice_get es n) false ≡ true → rest ≡ slice_set es n (with (get_or es n d)))
    → option_map_or test (slice_get (e ∷ es) (cond (is_lt r) (1 + n) 0)) false ≡ true → by_order (ordering_reverse r) (y ∷ e ∷ es) (replaced ∷ es) (e ∷ rest) ≡ slice_set (e ∷ es) (cond (is_lt r) (1 + n) 0) (with (get_or (e ∷ es) (cond (is_lt r) (1 + n) 0) d))
step_old Less y e d replaced es rest n test with is same more h =
    let next : 1 + n ≡ suc n = omega arith in
    rw next (ap (λ (ys : List _). e ∷ ys) (more (rw next at h)))
step_old Equal y e d replaced es rest n test with is same more h = ap (λ z. z ∷ es) same
step_old Greater y e d replaced es rest n test with is same more h = absurd (subst T (sym h ∙ is) tt)

pub put_old : {K X : Type 0} (R : K → K → Ordering) → IsTotalOrder R → (k : K) (x : X) (es : List (K × X)) (d : K × X) → is_present R k es ≡ true → put R k x es ≡ slice_set es (place R k es) ((get_or es (place R k es) d).0, x)
put_old R o k x [] d h = absurd (subst T (sym h) tt)
put_old R o k x (e ∷ es) d h = rw (o.antisymm k e.0) (step_old (R e.0 k) (k, x) e d (e.0, x) es (put R k x es) (place R k es) (λ f. is_eq (R f.0 k)) (λ f. (f.0, x)) refl refl (put_old R o k x es d) h)

-- ---- lookup of a key

none_found : {K X : Type 0} (R : K → K → Ordering) → IsTotalOrder R → (k x : K) → R k x ≡ Less → (es : List (K × X)) → T (below_all R x es) → find R k es ≡ None
none_found R o k x p [] h = refl
none_found R o k x p (e ∷ es) h = rw (o.trans k x e.0 p (less (R x e.0) (first_of (is_lt (R x e.0)) (below_all R x es) h))) (none_found R o k x p es (second_of _ _ h))

step_none : {Y Z : Type 0} (r : Ordering) (e : Y) (es : List Y) (n : ℕ) (test : Y → Bool) (z : Z) (rest : Option Z) → test e ≡ is_eq r → (option_map_or test (slice_get es n) false ≡ false → rest ≡ None) → (r ≡ Greater → rest ≡ None)
    → option_map_or test (slice_get (e ∷ es) (cond (is_lt r) (1 + n) 0)) false ≡ false → cond (is_eq (ordering_reverse r)) (Some z) rest ≡ None
step_none Less e es n test z rest is more below h =
    let next : 1 + n ≡ suc n = omega arith in
    more (rw next at h)
step_none Equal e es n test z rest is more below h = absurd (subst T (sym is ∙ h) tt)
step_none Greater e es n test z rest is more below h = below refl

pub find_new : {K X : Type 0} (R : K → K → Ordering) → IsTotalOrder R → (k : K) (es : List (K × X)) → T (is_sorted R es) → is_present R k es ≡ false → find R k es ≡ None
find_new R o k [] s h = refl
find_new R o k (e ∷ es) s h =
    rw (o.antisymm k e.0) (step_none (R e.0 k) e es (place R k es) (λ f. is_eq (R f.0 k)) e.1 (find R k es) refl (find_new R o k es (second_of _ _ s)) (λ p. none_found R o k e.0 (o.antisymm k e.0 ∙ ap ordering_reverse p) es (first_of _ _ s)) h)

step_some : {Y Z : Type 0} (r : Ordering) (e d : Y) (es : List Y) (n : ℕ) (test : Y → Bool) (value : Y → Z) (rest : Option Z) → test e ≡ is_eq r → (option_map_or test (slice_get es n) false ≡ true → rest ≡ Some (value (get_or es n d)))
    → option_map_or test (slice_get (e ∷ es) (cond (is_lt r) (1 + n) 0)) false ≡ true → cond (is_eq (ordering_reverse r)) (Some (value e)) rest ≡ Some (value (get_or (e ∷ es) (cond (is_lt r) (1 + n) 0) d))
step_some Less e d es n test value rest is more h =
    let next : 1 + n ≡ suc n = omega arith in
    rw next (more (rw next at h))
step_some Equal e d es n test value rest is more h = refl
step_some Greater e d es n test value rest is more h = absurd (subst T (sym h ∙ is) tt)

pub find_old : {K X : Type 0} (R : K → K → Ordering) → IsTotalOrder R → (k : K) (es : List (K × X)) (d : K × X) → is_present R k es ≡ true → find R k es ≡ Some (get_or es (place R k es) d).1
find_old R o k [] d h = absurd (subst T (sym h) tt)
find_old R o k (e ∷ es) d h = rw (o.antisymm k e.0) (step_some (R e.0 k) e d es (place R k es) (λ f. is_eq (R f.0 k)) (λ f. f.1) (find R k es) refl (find_old R o k es d) h)

-- ---- one more entry

pub entry_new : {K X : Type 0} (R : K → K → Ordering) → IsTotalOrder R → (plus : X → X → X) (e : K × X) (es : List (K × X)) → T (is_sorted R es) → is_present R e.0 es ≡ false → with_entry R plus es e ≡ insert es (place R e.0 es) e
entry_new R o plus e es s h = rw (find_new R o e.0 es s h) (put_new R o e.0 e.1 es h)

pub entry_old : {K X : Type 0} (R : K → K → Ordering) → IsTotalOrder R → (plus : X → X → X) (e : K × X) (es : List (K × X)) (d : K × X) → is_present R e.0 es ≡ true → with_entry R plus es e ≡ slice_set es (place R e.0 es) ((get_or es (place R e.0 es) d).0, plus (get_or es (place R e.0 es) d).1 e.1)
entry_old R o plus e es d h = rw (find_old R o e.0 es d h) (put_old R o e.0 (plus (get_or es (place R e.0 es) d).1 e.1) es d h)

-- If there is an item at a position, and it passes the test, the position is within the list.
pub present_within : {Y : Type 0} (test : Y → Bool) (ys : List Y) (n : ℕ) → option_map_or test (slice_get ys n) false ≡ true → n < length ys
present_within test [] n h = absurd (subst T (sym h) tt)
present_within test (y ∷ ys) zero h = omega arith
present_within test (y ∷ ys) (suc n) h = omega (arith, present_within test ys n h)

-- ---- the same for items that are viewed as entries

pub partitioned_by : {Y Z : Type 0} (f : Y → Z) (p : Z → Bool) (ys : List Y) → IsPartitionedBy p (map f ys) → IsPartitionedBy (λ y. p (f y)) ys
partitioned_by f p ys h i j d le lt passes =
    let at_j : get_or (map f ys) j (f d) ≡ f (get_or ys j d) = get_or-map f ys j d in
    let at_i : get_or (map f ys) i (f d) ≡ f (get_or ys i d) = get_or-map f ys i d in
    rw at_i at (h i j (f d) le (omega (arith, length-map ys f)) (rw at_j passes))

pub prefix_len-map : {Y Z : Type 0} (f : Y → Z) (p : Z → Bool) (ys : List Y) → prefix_len p (map f ys) ≡ prefix_len (λ y. p (f y)) ys
prefix_len-map f p [] = refl
prefix_len-map f p (y ∷ ys) = ap (λ n. cond (p (f y)) (1 + n) 0) (prefix_len-map f p ys)
