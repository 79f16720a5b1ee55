-- The first item that passes a test, among lists that are joined.
use Rattle.std.proofs.Common.{◌≡◌, ℕ, suc, ◌+◌, ◌<◌, Bool, true, false, List, ◌∷◌, length, get_or, drop, Option, Some, None, refl, ap, sym, ◌∙◌, add-one, drop-cons}
use Rattle.std.specs.Prelude.{flat_map, is_some}
use Rattle.std.specs.List.{find}
use Rattle.std.specs.Option.{option_or}
use Rattle.std.proofs.lemmas.List.Folds.{find-append}

parted : {X Y : Type 0} (p : Y → Bool) (g : X → List Y) (xs : List X) (i : ℕ) (x : X) → i < length xs → x ≡ get_or xs i x
    → find p (flat_map g (drop i xs)) ≡ option_or (find p (g x)) (find p (flat_map g (drop (suc i) xs)))
parted p g xs i x lt is =
    let parts : drop i xs ≡ get_or xs i x ∷ drop (suc i) xs = drop-cons xs i x lt in
    let first : drop i xs ≡ x ∷ drop (suc i) xs = parts ∙ ap (λ y. y ∷ drop (suc i) xs) (sym is) in
    ap (λ ys. find p (flat_map g ys)) first ∙ find-append p (g x) (flat_map g (drop (suc i) xs))

of_some : {Y : Type 0} (o rest : Option Y) → is_some o ≡ true → option_or o rest ≡ o
of_some None rest is = absurd (cc)
of_some (Some n) rest is = refl

of_none : {Y : Type 0} (o rest : Option Y) → is_some o ≡ false → option_or o rest ≡ rest
of_none None rest is = refl
of_none (Some n) rest is = absurd (cc)

pub found_here : {X Y : Type 0} (p : Y → Bool) (g : X → List Y) (xs : List X) (i : ℕ) (x : X) (found : Option Y) → i < length xs → x ≡ get_or xs i x → found ≡ find p (g x) → is_some found ≡ true
    → find p (flat_map g (drop i xs)) ≡ find p (flat_map g xs) → found ≡ find p (flat_map g xs)
found_here p g xs i x found lt is here some so_far =
    let rest = find p (flat_map g (drop (suc i) xs)) in
    sym (of_some found rest some) ∙ ap (λ o. option_or o rest) here ∙ sym (parted p g xs i x lt is) ∙ so_far

pub found_later : {X Y : Type 0} (p : Y → Bool) (g : X → List Y) (xs : List X) (i : ℕ) (x : X) (found : Option Y) → i < length xs → x ≡ get_or xs i x → found ≡ find p (g x) → is_some found ≡ false
    → find p (flat_map g (drop i xs)) ≡ find p (flat_map g xs) → find p (flat_map g (drop (i + 1) xs)) ≡ find p (flat_map g xs)
found_later p g xs i x found lt is here none so_far =
    let rest = find p (flat_map g (drop (suc i) xs)) in
    let passes : option_or (find p (g x)) rest ≡ rest = ap (λ o. option_or o rest) (sym here) ∙ of_none found rest none in
    rw add-one (sym passes ∙ sym (parted p g xs i x lt is) ∙ so_far)
