-- Small lemmas about conjunctions, optional values and lists.
use Rattle.std.proofs.Common.{◌≡◌, ◌∙◌, ◌&&◌, ◌++◌, [], ◌∷◌, Bool, List, Option, Some, None, OnSome, true, false, true≢false, ap, sym}

-- if two conditions hold, the second does
pub second_holds : (a b : Bool) → (a && b) ≡ true → b ≡ true
second_holds true b both = both
second_holds false b both = absurd (true≢false (sym both))

-- what holds in any case holds if there is a value
pub if_any : {A : Type 0} {P : Type 0} (r : Option A) → P → OnSome r P
if_any None holds = tt
if_any (Some x) holds = holds

-- a list begins with a value that is equal to its first item
pub first_named : {A : Type 0} (x y : A) (xs ys : List A) → y ≡ x → ys ≡ (x ∷ []) ++ xs → ys ≡ y ∷ xs
first_named x y xs ys same begins = begins ∙ ap (λ z. z ∷ xs) (sym same)
