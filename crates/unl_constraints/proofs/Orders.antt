-- The order of numbers is total.
use Rattle.std.proofs.Common.{◌≡◌, ℕ, ◌^◌, ℤ, pos, ◌*ℤ◌, ◌<ℤ◌, refl, sym, ap, subst, ◌∙◌}
use Rattle.std.specs.Cmp.{IsTotalOrder, int_ranks}
use Rattle.std.proofs.lemmas.Cmp.{int_cmp_total}
use Rattle.std.specs.Ordering.{int_cmp, ordering_reverse, MatchOrdering}
use Rattle.std.specs.declared.cmp.Ordering.TheVariants.{Less, Equal}
use Rattle.std.proofs.Math.Nat.{mul_comm}
use Rattle.unl_constraints.specs.Decimal.{Number, IsBelow, AreEqual, number_cmp}
use Rattle.unl_constraints.proofs.Powers.{ten_power}
use Rattle.unl_constraints.proofs.Scaling.{times_times, cmp_scaled, same_order}

swapped : (z : ℤ) (a b : ℕ) → (z *ℤ pos a) *ℤ pos b ≡ (z *ℤ pos b) *ℤ pos a
swapped z a b = times_times z a b ∙ ap (λ k. z *ℤ pos k) (mul_comm a b) ∙ sym (times_times z b a)

pub compared : (p q : Number) → MatchOrdering (number_cmp p q) (IsBelow p q) (AreEqual p q) (IsBelow q p)
compared (n, s) (m, t) = int_ranks (n *ℤ pos (10 ^ t)) (m *ℤ pos (10 ^ s))

equal_from : (x y : ℤ) → int_cmp x y ≡ Equal → x ≡ y
equal_from x y equal = subst (λ r. MatchOrdering r (x <ℤ y) (x ≡ y) (y <ℤ x)) equal (int_ranks x y)

reversed : (p q : Number) → number_cmp p q ≡ ordering_reverse (number_cmp q p)
reversed (n, s) (m, t) = int_cmp_total.antisymm (n *ℤ pos (10 ^ t)) (m *ℤ pos (10 ^ s))

-- The order is transitive. To show this, each comparison of two numbers is multiplied by the third number's power of ten.
passes : (p q r : Number) → number_cmp p q ≡ Less → number_cmp q r ≡ Less → number_cmp p r ≡ Less
passes (n, s) (m, t) (k, u) low high =
    let first : int_cmp ((n *ℤ pos (10 ^ t)) *ℤ pos (10 ^ u)) ((m *ℤ pos (10 ^ s)) *ℤ pos (10 ^ u)) ≡ Less = cmp_scaled (n *ℤ pos (10 ^ t)) (m *ℤ pos (10 ^ s)) (10 ^ u) (ten_power u) ∙ low in
    let second : int_cmp ((m *ℤ pos (10 ^ u)) *ℤ pos (10 ^ s)) ((k *ℤ pos (10 ^ t)) *ℤ pos (10 ^ s)) ≡ Less = cmp_scaled (m *ℤ pos (10 ^ u)) (k *ℤ pos (10 ^ t)) (10 ^ s) (ten_power s) ∙ high in
    let left : int_cmp ((n *ℤ pos (10 ^ u)) *ℤ pos (10 ^ t)) ((m *ℤ pos (10 ^ u)) *ℤ pos (10 ^ s)) ≡ Less =
    ap (λ z. int_cmp z ((m *ℤ pos (10 ^ u)) *ℤ pos (10 ^ s))) (swapped n (10 ^ u) (10 ^ t)) ∙ ap (λ z. int_cmp ((n *ℤ pos (10 ^ t)) *ℤ pos (10 ^ u)) z) (swapped m (10 ^ u) (10 ^ s)) ∙ first in
    let right : int_cmp ((m *ℤ pos (10 ^ u)) *ℤ pos (10 ^ s)) ((k *ℤ pos (10 ^ s)) *ℤ pos (10 ^ t)) ≡ Less =
    ap (λ z. int_cmp ((m *ℤ pos (10 ^ u)) *ℤ pos (10 ^ s)) z) (swapped k (10 ^ s) (10 ^ t)) ∙ second in
    sym (cmp_scaled (n *ℤ pos (10 ^ u)) (k *ℤ pos (10 ^ s)) (10 ^ t) (ten_power t))
    ∙ int_cmp_total.trans ((n *ℤ pos (10 ^ u)) *ℤ pos (10 ^ t)) ((m *ℤ pos (10 ^ u)) *ℤ pos (10 ^ s)) ((k *ℤ pos (10 ^ s)) *ℤ pos (10 ^ t)) left right

equals_compare : (p q r : Number) → number_cmp p q ≡ Equal → number_cmp p r ≡ number_cmp q r
equals_compare (n, s) (m, t) (k, u) equal = same_order (n, s) (k, u) (m, t) (k, u) (equal_from (n *ℤ pos (10 ^ t)) (m *ℤ pos (10 ^ s)) equal) refl

pub number_total : IsTotalOrder number_cmp
number_total = record { antisymm = reversed; trans = passes; congr = equals_compare }
