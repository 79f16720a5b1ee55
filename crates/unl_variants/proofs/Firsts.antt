-- The position of the first item that passes a test.
use Rattle.std.proofs.Common.{◌≡◌, ℕ, ◌+◌, Bool, true, false, cond, List, [], ◌∷◌, length, Some, refl, ap, ◌∙◌, arith}
use Rattle.std.specs.Prelude.{position, is_some, ◌||◌}
use Rattle.std.specs.List.{list_any, position_from, position_or_len}
use Rattle.std.proofs.lemmas.Bool.{lt-ltb}
use Rattle.std.proofs.lemmas.Iterator.Adapters.{position_from-zero}
use Rattle.std.proofs.lemmas.List.Quantifiers.{position-Some}
use Rattle.std.proofs.lemmas.List.Sums.{position_or_len_is}
use Rattle.unl_variants.specs.Variant.{IsFirst}

some_from : {T : Type 0} (p : T → Bool) (i : ℕ) (xs : List T) → is_some (position_from p i xs) ≡ list_any p xs
some_from p i [] = refl
some_from p i (x ∷ xs) = elim (p x) as (λ b. is_some (cond b (Some i) (position_from p (i + 1) xs)) ≡ (b || list_any p xs)) [ true ↦ refl | false ↦ some_from p (i + 1) xs ]

-- `position` returns an index if and only if some item passes the test
pub some_passes : {T : Type 0} (p : T → Bool) (xs : List T) → is_some (position p xs) ≡ list_any p xs
some_passes p xs = ap is_some (position_from-zero p xs) ∙ some_from p 0 xs

-- the index that `position` returns is that of the first item that passes the test
pub first_at : {T : Type 0} (p : T → Bool) (xs : List T) (k : ℕ) → position p xs ≡ Some k → IsFirst p xs k
first_at p [] k is = absurd (cc)
first_at p (x ∷ xs) k is =
    let first = position-Some p (x ∷ xs) k x is in
    record {
      inside = first.0;
      here = λ d. (position-Some p (x ∷ xs) k d is).1;
      not_before = λ j d low below. (position-Some p (x ∷ xs) k d is).2 j below;
    }

-- the index of the first item that passes the test is the one that `position` returns
pub first_only : {T : Type 0} (p : T → Bool) (xs : List T) (k : ℕ) → IsFirst p xs k → position p xs ≡ Some k
first_only p [] k first = absurd (omega (arith, first.inside))
first_only p (x ∷ xs) k first =
    let at : position_or_len p (x ∷ xs) ≡ k = position_or_len_is p (x ∷ xs) k x (omega (arith, first.inside)) (λ j below. first.not_before j x (omega arith) below) (λ inside. first.here x) in
    rw at (rw (lt-ltb k (length (x ∷ xs)) first.inside) refl)
