-- The effect of sorting, folding and removing duplicates on a constraint's values.
use Rattle.std.proofs.Common.{◌≡◌, ℕ, Bool, true, false, ◌||◌, ◌&&◌, List, [], ◌∷◌, map, nat_eq, inl, inr, refl, sym, ap, ◌∙◌}
use Rattle.std.specs.Cmp.Lexicographic.{pointwise, texts_ties}
use Rattle.std.specs.List.{list_any, dedup, dedup_from}
use Rattle.std.proofs.lemmas.Bool.{cases_Bool}
use Rattle.std.proofs.lemmas.List.{map-id}
use Rattle.std.proofs.lemmas.Map.Text.{is_eq-slice_cmp}
use Rattle.std.proofs.lemmas.Slice.Eq.{bytes_eq-Decides}
use Rattle.unl_documents.specs.declared.constraint.Constraint.{Constraint}
use Rattle.unl_constraints.specs.Operands.{kind_of, is_part, compared_values}
use Rattle.unl_constraints.specs.Texts.{compared}
use Rattle.unl_constraints.specs.declared.operand.OperandKind.TheVariants as kind

same_text : (x y : List ℕ) → pointwise nat_eq x y ≡ true → x ≡ y
same_text x y same = (bytes_eq-Decides x y).0 (sym (is_eq-slice_cmp x y) ∙ sym (texts_ties x y) ∙ same)

twice : (a b : Bool) → (a || b) ≡ (a || (a || b))
twice true b = refl
twice false b = refl

any_from : (test : List ℕ → Bool) (k : List ℕ) (xs : List (List ℕ)) → list_any test (dedup_from (pointwise nat_eq) k xs) ≡ (test k || list_any test xs)
any_from test k [] = refl
any_from test k (x ∷ xs) =
    elim (cases_Bool (pointwise nat_eq x k)) [
      | inl same ↦
          let is : test k ≡ test x = ap test (sym (same_text x k same)) in
          rw same (any_from test k xs ∙ twice (test k) (list_any test xs) ∙ ap (λ t. test k || (t || list_any test xs)) is)
      | inr not ↦ rw not (ap (λ rest. test k || rest) (any_from test x xs))
    ]

pub any_dedup : (test : List ℕ → Bool) (xs : List (List ℕ)) → list_any test (dedup (pointwise nat_eq) xs) ≡ list_any test xs
any_dedup test [] = refl
any_dedup test (x ∷ xs) = any_from test x xs

any_map : (test : List ℕ → Bool) (f : List ℕ → List ℕ) (xs : List (List ℕ)) → list_any test (map f xs) ≡ list_any (λ x. test (f x)) xs
any_map test f [] = refl
any_map test f (x ∷ xs) = ap (λ rest. test (f x) || rest) (any_map test f xs)

-- Values that are compared whole are unchanged.
pub member_values : (c : Constraint) → kind_of c.operator ≡ kind.Member → compared_values c ≡ c.values
member_values c is = ap (λ k. map (compared (is_part k && c.caseless)) c.values) is ∙ map-id c.values

-- Values that are compared as substrings are case-folded if the constraint is case-insensitive.
pub part_values : (test : List ℕ → Bool) (c : Constraint) → kind_of c.operator ≡ kind.Part → list_any test (compared_values c) ≡ list_any (λ value. test (compared c.caseless value)) c.values
part_values test c is = ap (λ k. list_any test (map (compared (is_part k && c.caseless)) c.values)) is ∙ any_map test (compared c.caseless) c.values
