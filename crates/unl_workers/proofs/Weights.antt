-- Lemmas about the sum of the weights of a list (`weigh`).
use Rattle.std.proofs.Common.{◌≡◌, ℕ, zero, suc, ◌+◌, ◌≤◌, List, [], ◌∷◌, ◌++◌, set, sym, refl, ap, arith}
use mathlib.Core.Option.{some, some-injective, some-ne-none}
use lib.ListN.{get_elem?}
use Rattle.unl_workers.specs.Tallies.{weigh}

module _ {X : Type 0} where
  pub weigh_append : (h : X → ℕ) (xs ys : List X) → weigh h (xs ++ ys) ≡ weigh h xs + weigh h ys
  weigh_append h [] ys = omega arith
  weigh_append h (x ∷ xs) ys = let rest = weigh_append h xs ys in omega arith

  -- the sum after one item was replaced
  pub weigh_set : (f : X → ℕ) (xs : List X) (i : ℕ) (v w : X) → get_elem? xs i ≡ some v → weigh f (set xs i w) + f v ≡ weigh f xs + f w
  weigh_set f [] i v w at = absurd (some-ne-none v (sym at))
  weigh_set f (x ∷ xs) zero v w at = let same = ap f (some-injective x v at) in omega arith
  weigh_set f (x ∷ xs) (suc i) v w at = let rest = weigh_set f xs i v w at in omega arith

  -- the weight of one item is at most the sum
  pub weigh_at : (f : X → ℕ) (xs : List X) (i : ℕ) (v : X) → get_elem? xs i ≡ some v → f v ≤ weigh f xs
  weigh_at f [] i v at = absurd (some-ne-none v (sym at))
  weigh_at f (x ∷ xs) zero v at = let same = ap f (some-injective x v at) in omega arith
  weigh_at f (x ∷ xs) (suc i) v at = let rest = weigh_at f xs i v at in omega arith

  -- if the sum by `g` is 0, and each item of weight 0 by `g` has weight 0 by `f`, then the sum by `f` is 0
  pub weigh_none : (g f : X → ℕ) (xs : List X) → weigh g xs ≡ 0
      → ((j : ℕ) (u : X) → get_elem? xs j ≡ some u → g u ≡ 0 → f u ≡ 0) → weigh f xs ≡ 0
  weigh_none g f [] none idle = refl
  weigh_none g f (x ∷ xs) none idle =
      let here : f x ≡ 0 = idle 0 x refl (omega (arith, none)) in
      let rest : weigh f xs ≡ 0 = weigh_none g f xs (omega (arith, none)) (λ j u at. idle (suc j) u at) in
      omega (arith, here, rest)

  -- if one item has the whole sum by `g`, and each item of weight 0 by `g` has weight 0 by `f`, then it has the whole sum by `f`
  pub weigh_alone : (g f : X → ℕ) (xs : List X) (i : ℕ) (v : X) → get_elem? xs i ≡ some v → weigh g xs ≡ g v
      → ((j : ℕ) (u : X) → get_elem? xs j ≡ some u → g u ≡ 0 → f u ≡ 0) → weigh f xs ≡ f v
  weigh_alone g f [] i v at all idle = absurd (some-ne-none v (sym at))
  weigh_alone g f (x ∷ xs) zero v at all idle =
      let same_g : g x ≡ g v = ap g (some-injective x v at) in
      let same_f : f x ≡ f v = ap f (some-injective x v at) in
      let rest : weigh f xs ≡ 0 = weigh_none g f xs (omega (arith, all, same_g)) (λ j u at. idle (suc j) u at) in
      omega (arith, same_f, rest)
  weigh_alone g f (x ∷ xs) (suc i) v at all idle =
      let within : g v ≤ weigh g xs = weigh_at g xs i v at in
      let here : f x ≡ 0 = idle 0 x refl (omega (arith, all, within)) in
      let rest : weigh f xs ≡ f v = weigh_alone g f xs i v at (omega (arith, all, within)) (λ j u at. idle (suc j) u at) in
      omega (arith, here, rest)
