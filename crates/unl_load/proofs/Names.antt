-- The names of the features rise with their index.
use Rattle.std.proofs.Common.{◌≡◌, ◌<◌, ◌+◌, ◌-◌, ◌&&◌, ℕ, zero, suc, Bool, true, refl, sym, subst, arith, ⊎_elim, true≢false}
use Rattle.std.proofs.lemmas.Bool.{cases_eq}
use Rattle.std.proofs.lemmas.Cmp.{nat_list_cmp_total}
use Rattle.std.specs.Cmp.Lexicographic.{slice_cmp}
use Rattle.std.specs.Ordering.{is_lt, nat_cmp}
use Rattle.std.specs.declared.cmp.Ordering.{Ordering}
use Rattle.std.specs.declared.cmp.Ordering.TheVariants.{Less, Equal, Greater}
use Rattle.unl_load.specs.Input.{name_of}

abbrev order : ℕ → ℕ → Ordering
order place other = slice_cmp nat_cmp (name_of place) (name_of other)

-- each of the first `n` names is less than the next
rise_up_to : ℕ → Bool
rise_up_to zero = true
rise_up_to (suc n) = is_lt (order n (n + 1)) && rise_up_to n

-- checked by comparing all names
all_rise : rise_up_to 999 ≡ true
unfolding name_of rise_up_to
all_rise = refl

below : (o : Ordering) (b : Bool) → (is_lt o && b) ≡ true → (o ≡ Less) × (b ≡ true)
below Less b e = (refl, e)
below Equal b e = absurd (true≢false (sym e))
below Greater b e = absurd (true≢false (sym e))

rises : (n place : ℕ) → rise_up_to n ≡ true → place < n → order place (place + 1) ≡ Less
unfolding rise_up_to
rises zero place rise less = absurd (omega (arith, less))
rises (suc n) place rise less =
    let parts = below (order n (n + 1)) (rise_up_to n) rise in
    ⊎_elim
    (λ same. subst (λ p. order p (p + 1) ≡ Less) (sym same) parts.0)
    (λ other. rises n place parts.1 (omega (arith, less)))
    (cases_eq place n)

rises_by : (more place : ℕ) → place + more < 999 → order place (place + more + 1) ≡ Less
rises_by zero place less =
    let same : place + 1 ≡ place + 0 + 1 = omega arith in
    subst (λ p. order place p ≡ Less) same (rises 999 place all_rise (omega (arith, less)))
rises_by (suc more) place less =
    let same : place + more + 1 + 1 ≡ place + suc more + 1 = omega arith in
    subst (λ p. order place p ≡ Less) same
    (nat_list_cmp_total.trans (name_of place) (name_of (place + more + 1)) (name_of (place + more + 1 + 1))
    (rises_by more place (omega (arith, less)))
    (rises 999 (place + more + 1) all_rise (omega (arith, less))))

-- a name is less than the names of greater indexes, up to 999
pub name_rises : (place other : ℕ) → place < other → other < 1000 → order place other ≡ Less
name_rises place other less inside =
    let same : place + (other - (place + 1)) + 1 ≡ other = omega (arith, less) in
    subst (λ p. order place p ≡ Less) same (rises_by (other - (place + 1)) place (omega (arith, less)))
