-- The first variant for which the sum of the weights up to and including its own is at least a target.
use Rattle.std.proofs.Common.{◌≡◌, ℕ, zero, suc, ◌+◌, ◌*◌, ◌<◌, ◌≤◌, true, false, List, [], ◌∷◌, length, take, get_or, Option, Some, None, refl, sym, ap, subst, ◌∙◌, arith, inl, inr}
use Rattle.std.specs.Prelude.{nat_le, position, is_some}
use Rattle.std.specs.List.{list_any}
use Rattle.std.proofs.lemmas.Bool.{leb-true, leb-false, le-leb, lt-leb, cases_lt}
use Rattle.std.proofs.lemmas.List.{take-take}
use Rattle.std.proofs.lemmas.List.Sums.{sum_by-cons, sum_by-take-le, sum_by_more_le, sum_by-le}
use Rattle.std.proofs.Math.Numerals.{add-one}
use Rattle.unl_documents.specs.declared.variant.Variant.{Variant}
use Rattle.unl_variants.specs.Variant.{AreWithinLimits, IsFirst, IsReached, total_weight, weight_before, sums_from, place_reached}
use Rattle.unl_variants.proofs.Firsts.{first_at, some_passes}

length_sums : (before : ℕ) (vs : List Variant) → length (sums_from before vs) ≡ length vs
length_sums before [] = refl
length_sums before (v ∷ vs) = ap suc (length_sums (before + v.weight) vs)

-- item `k` of `sums_from` is `before` plus the weights of the variants up to and including index `k`
sum_at : (before : ℕ) (vs : List Variant) (k d : ℕ) → k < length vs → get_or (sums_from before vs) k d ≡ before + total_weight (take (suc k) vs)
sum_at before [] k d inside = absurd (omega (arith, inside))
sum_at before (v ∷ vs) zero d inside = rw sum_by-cons (omega arith)
sum_at before (v ∷ vs) (suc k) d inside =
    rw sum_by-cons (sum_at (before + v.weight) vs k d (omega (arith, inside)) ∙ omega arith)

above : (target : ℕ) (vs : List Variant) (k : ℕ) → 0 < target → k < length vs → IsFirst (λ sum. nat_le target sum) (sums_from 0 vs) k → weight_before k vs < target
above target vs zero some inside first = some
above target vs (suc j) some inside first =
    let fails : nat_le target (total_weight (take (suc j) vs)) ≡ false = ap (λ sum. nat_le target sum) (sym (sum_at 0 vs j 0 (omega (arith, inside)) ∙ omega arith)) ∙ first.not_before j 0 (omega arith) (omega arith) in
    leb-false target (total_weight (take (suc j) vs)) fails

up_to : (target : ℕ) (vs : List Variant) (k : ℕ) → k < length vs → IsFirst (λ sum. nat_le target sum) (sums_from 0 vs) k → target ≤ weight_before (k + 1) vs
up_to target vs k inside first =
    let passes : nat_le target (total_weight (take (suc k) vs)) ≡ true = ap (λ sum. nat_le target sum) (sym (sum_at 0 vs k 0 inside ∙ omega arith)) ∙ first.here 0 in
    rw add-one (leb-true target (total_weight (take (suc k) vs)) passes)

reached_first : (target : ℕ) (vs : List Variant) (k : ℕ) → 0 < target → IsFirst (λ sum. nat_le target sum) (sums_from 0 vs) k → IsReached target vs k
reached_first target vs k some first =
    let inside : k < length vs = omega (arith, first.inside, length_sums 0 vs) in
    record { inside = inside; above = above target vs k some inside first; up_to = up_to target vs k inside first }

some_reaches : (target before : ℕ) (vs : List Variant) → before < target → target ≤ before + total_weight vs → list_any (λ sum. nat_le target sum) (sums_from before vs) ≡ true
some_reaches target before [] short far = absurd (omega (arith, short, far))
some_reaches target before (v ∷ vs) short far =
    elim (cases_lt (before + v.weight) target) [
      | inl lt ↦ rw (lt-leb target (before + v.weight) lt) (some_reaches target (before + v.weight) vs lt (omega (arith, far, sum_by-cons (λ (v : Variant). v.weight) v vs)))
      | inr le ↦ rw (le-leb target (before + v.weight) le) refl
    ]

place_by : (target : ℕ) (vs : List Variant) (found : Option ℕ) → 0 < target → position (λ sum. nat_le target sum) (sums_from 0 vs) ≡ found → is_some found ≡ true → (k : ℕ) × (found ≡ Some k) × IsReached target vs k
place_by target vs None some is there = absurd (cc)
place_by target vs (Some k) some is there = (k, refl, reached_first target vs k some (first_at (λ sum. nat_le target sum) (sums_from 0 vs) k is))

-- a target from 1 to the sum of the weights is reached, at the index that `place_reached` returns
pub place_is_reached : (target : ℕ) (vs : List Variant) → 0 < target → target ≤ total_weight vs → (k : ℕ) × (place_reached target vs ≡ Some k) × IsReached target vs k
unfolding place_reached
place_is_reached target vs some far =
    place_by target vs _ some refl (some_passes (λ sum. nat_le target sum) (sums_from 0 vs) ∙ some_reaches target 0 vs some (omega (arith, far)))

heavier : (vs : List Variant) (j k : ℕ) → j < k → weight_before (j + 1) vs ≤ weight_before k vs
heavier vs j k below =
    subst (λ prefix. total_weight prefix ≤ total_weight (take k vs)) (take-take (j + 1) k vs (omega arith)) (sum_by-take-le (λ (v : Variant). v.weight) (take k vs) (j + 1))

-- at most one index satisfies `IsReached`
pub reached_once : (target : ℕ) (vs : List Variant) (j k : ℕ) → IsReached target vs j → IsReached target vs k → j ≡ k
reached_once target vs j k a b =
    elim (cases_lt j k) [
      | inl less ↦ absurd (omega (arith, a.up_to, b.above, heavier vs j k less))
      | inr le ↦ elim (cases_lt k j) [
        | inl less ↦ absurd (omega (arith, b.up_to, a.above, heavier vs k j less))
        | inr ge ↦ omega (arith, le, ge)
      ]
    ]

-- ---- within the limits

-- the sum so far plus the next weight is at most 100,000
pub fits_more : (vs : List Variant) (i : ℕ) (v : Variant) → AreWithinLimits vs → i < length vs → v ≡ get_or vs i v → total_weight (take i vs) + v.weight ≤ 100000
fits_more vs i v limits inside is =
    let more : total_weight (take i vs) + (get_or vs i v).weight ≤ total_weight vs = sum_by_more_le (λ (v : Variant). v.weight) vs i v inside in
    let all : total_weight vs ≤ length vs * 1000 = sum_by-le (λ (v : Variant). v.weight) 1000 vs limits.1 in
    let same : v.weight ≡ (get_or vs i v).weight = ap (λ (v : Variant). v.weight) is in
    omega (arith, more, all, same, limits.0)
