-- The function `choice_of` computes the only choice that satisfies the relation `IsChosen`.
use Rattle.std.proofs.Common.{◌≡◌, ℕ, ◌<◌, ◌≤◌, Bool, true, false, List, Option, Some, None, refl, sym, ap, ◌∙◌, arith, inl, inr}
use Rattle.std.specs.Prelude.{position, is_some, is_none, unwrap_or, MatchBool, IfSome, IfNone, ◌==◌, length}
use Rattle.std.specs.List.{list_any}
use Rattle.std.specs.Option.{option_or}
use Rattle.std.proofs.lemmas.Bool.{cases_lt, ne_eqb}
use Rattle.unl_documents.specs.declared.variant.Variant.{Variant}
use Rattle.unl_context.specs.Context.{Fields}
use Rattle.unl_murmur.specs.Murmur3.{normalized_of}
use Rattle.unl_variants.specs.Variant.{IsChosen, IsFirst, IsReached, choice_of, is_overridden, place_reached, target_of, total_weight}
use Rattle.unl_variants.proofs.Firsts.{first_at, first_only, some_passes}
use Rattle.unl_variants.proofs.Reaching.{place_is_reached, reached_once}

module _ (group : List ℕ) (vs : List Variant) (context : Fields) (random : ℕ) where
  -- if the sum of the weights is not 0, `target_of` is between 1 and this sum
  target_within : 0 < total_weight vs → (0 < target_of group vs context random) × (target_of group vs context random ≤ total_weight vs)
  unfolding target_of normalized_of
  target_within some = omega arith

  drawn : (found : Option ℕ) (k : ℕ) → found ≡ Some k → 0 < total_weight vs → list_any (is_overridden context) vs ≡ false → IsReached (target_of group vs context random) vs k → IsChosen group vs context random found
  drawn None k is some none reached = absurd (cc)
  drawn (Some j) k is some none reached =
      let same : j ≡ k = ap (λ o. unwrap_or o 0) is in
      (some, rw (none, same) reached)

  picked : (found : Option ℕ) → 0 < total_weight vs → position (is_overridden context) vs ≡ found → IsChosen group vs context random (option_or found (place_reached (target_of group vs context random) vs))
  picked None some is =
      let within = target_within some in
      let place = place_is_reached (target_of group vs context random) vs within.0 within.1 in
      let none : list_any (is_overridden context) vs ≡ false = sym (some_passes (is_overridden context) vs) ∙ ap is_some is in
      drawn _ place.0 place.1 some none place.2
  picked (Some k) some is =
      let there : list_any (is_overridden context) vs ≡ true = sym (some_passes (is_overridden context) vs) ∙ ap is_some is in
      (some, rw there (first_at (is_overridden context) vs k is))

  -- the result of `choice_of` satisfies `IsChosen`
  pub choice_is : IsChosen group vs context random (choice_of group vs context random)
  unfolding choice_of
  choice_is = elim (cases_lt 0 (total_weight vs)) [
    | inl some ↦ rw (ne_eqb (total_weight vs) 0 (λ zero. absurd (omega (arith, some, zero)))) (picked _ some refl)
    | inr none ↦ let zero : total_weight vs ≡ 0 = omega (arith, none) in rw zero zero
  ]

  chosen_places : (j k : ℕ) (b : Bool) → list_any (is_overridden context) vs ≡ b
      → MatchBool b (IsFirst (is_overridden context) vs j) (IsReached (target_of group vs context random) vs j)
      → MatchBool b (IsFirst (is_overridden context) vs k) (IsReached (target_of group vs context random) vs k) → j ≡ k
  chosen_places j k true is a b = ap (λ o. unwrap_or o 0) (sym (first_only (is_overridden context) vs j a) ∙ first_only (is_overridden context) vs k b)
  chosen_places j k false is a b = reached_once (target_of group vs context random) vs j k a b

  -- at most one choice satisfies `IsChosen`
  pub chosen_once : (a b : Option ℕ) → IsChosen group vs context random a → IsChosen group vs context random b → a ≡ b
  chosen_once None None none also = refl
  chosen_once None (Some k) none is = absurd (omega (arith, none, is.0))
  chosen_once (Some j) None is none = absurd (omega (arith, none, is.0))
  chosen_once (Some j) (Some k) a b = ap Some (chosen_places j k _ refl a.1 b.1)

  -- so a choice that satisfies `IsChosen` is the result of `choice_of`
  pub value_is : (found : Option ℕ) → IsChosen group vs context random found → found ≡ choice_of group vs context random
  value_is found is = chosen_once found (choice_of group vs context random) is choice_is

  pub none_is : (found : Option ℕ) → IsChosen group vs context random found → is_none found ≡ (total_weight vs == 0)
  none_is None is = rw is refl
  none_is (Some k) is = sym (ne_eqb (total_weight vs) 0 (λ zero. absurd (omega (arith, is.0, zero))))

  picked_inside : (k : ℕ) (b : Bool) → MatchBool b (IsFirst (is_overridden context) vs k) (IsReached (target_of group vs context random) vs k) → k < length vs
  picked_inside k true is = is.inside
  picked_inside k false is = is.inside

  pub inside_is : (found : Option ℕ) → IsChosen group vs context random found → IfSome found (λ k. k < length vs)
  inside_is None is = tt
  inside_is (Some k) is = picked_inside k _ is.1

  -- a variant found by an override is chosen
  pub overridden_is : (k : ℕ) → 0 < total_weight vs → position (is_overridden context) vs ≡ Some k → IsChosen group vs context random (Some k)
  overridden_is k some is = picked (Some k) some is

  -- without an override, the variant found by the weights is chosen
  pub drawn_is : (found : Option ℕ) → 0 < total_weight vs → position (is_overridden context) vs ≡ None
      → IfSome found (IsReached (target_of group vs context random) vs) → IfNone found (total_weight vs < target_of group vs context random) → IsChosen group vs context random found
  drawn_is None some none reached far = absurd (omega (arith, (target_within some).1, far))
  drawn_is (Some k) some none reached far =
      (some, rw (sym (some_passes (is_overridden context) vs) ∙ ap is_some none) reached)
