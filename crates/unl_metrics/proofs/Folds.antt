-- A loop over a list that adds each item to an accumulator computes a fold.
use Rattle.std.proofs.Common.{◌≡◌, ℕ, suc, ◌+◌, ◌<◌, ◌≤◌, List, ◌∷◌, map, length, get_or, drop, fold, refl, sym, ap, ◌∙◌, add-one, drop-cons, arith}
use Rattle.std.proofs.Math.ListN.{get_or-map}
use Rattle.std.proofs.lemmas.List.{drop_all, length-map}

pub fold_more : {A B : Type 0} (f : B → A → B) (b next total : B) (xs : List A) (i : ℕ) (x : A) → i < length xs → x ≡ get_or xs i x → next ≡ f b x → fold f b (drop i xs) ≡ total → fold f next (drop (i + 1) xs) ≡ total
fold_more f b next total xs i x lt is adds so_far =
    let parts : drop i xs ≡ x ∷ drop (i + 1) xs = rw add-one (drop-cons xs i x lt ∙ ap (λ y. y ∷ drop (suc i) xs) (sym is)) in
    rw (adds, ← so_far, parts) refl

pub fold_done : {A B : Type 0} (f : B → A → B) (b total : B) (xs : List A) (i : ℕ) → length xs ≤ i → fold f b (drop i xs) ≡ total → b ≡ total
fold_done f b total xs i le so_far = rw (drop_all i xs le) at so_far

-- The same for a loop that adds a function `g` of each item.
pub map_more : {A B C : Type 0} (f : B → C → B) (g : A → C) (b next total : B) (xs : List A) (i : ℕ) (x : A) → i < length xs → x ≡ get_or xs i x → next ≡ f b (g x) → fold f b (drop i (map g xs)) ≡ total → fold f next (drop (i + 1) (map g xs)) ≡ total
map_more f g b next total xs i x lt is adds so_far =
    fold_more f b next total (map g xs) i (g x) (omega (arith, length-map xs g)) (ap g is ∙ sym (get_or-map g xs i x)) adds so_far

pub map_done : {A B C : Type 0} (f : B → C → B) (g : A → C) (b total : B) (xs : List A) (i : ℕ) → length xs ≤ i → fold f b (drop i (map g xs)) ≡ total → b ≡ total
map_done f g b total xs i le so_far = fold_done f b total (map g xs) i (omega (arith, length-map xs g)) so_far
