-- How a look, which is one read of the published value, changes the values that a reader knows.
use Rattle.std.proofs.Common.{◌≡◌, ℕ, zero, suc, ◌<◌, ◌≤◌, leb, List, [], ◌∷◌, length, take, fold, Bool, true, false, Option, Some, None, refl, sym, ap, ◌∙◌, subst, arith, take_all, is_some, inl, inr}
use Rattle.std.specs.Option.{option_map}
use Rattle.std.proofs.lemmas.List.{take-append-le}
use Rattle.std.proofs.lemmas.Bool.Decides.{nat_tests}
use Rattle.unl_publication.specs.declared.knowledge.Knowledge.{Knowledge}
use Rattle.unl_publication.specs.Looking.{IsAhead, Takes, Follows, LooksBelow, StaysOrTakes}
use Rattle.unl_publication.specs.Meaning.{some_if, item_or, first_of, front_seen, value_at, values, known}
use Rattle.unl_publication.proofs.Keeps.{StartsWith-length}

passes : {A : Type 0} (p q : Bool) (x y : Option A) (b : A) → (p ≡ true → q ≡ true) → (p ≡ true → y ≡ x) → some_if p x ≡ Some b → some_if q y ≡ Some b
passes true q x y b up same e = subst (λ (z : Bool). some_if z y ≡ Some b) (sym (up refl)) (same refl ∙ e)
passes false q x y b up same e = absurd cc

true_here : {A : Type 0} (p : Bool) (x : Option A) → p ≡ true → some_if p x ≡ x
true_here p x is = ap (λ (z : Bool). some_if z x) is

was_true : {A : Type 0} (p : Bool) (x : Option A) (b : A) → some_if p x ≡ Some b → p ≡ true
was_true true x b e = refl
was_true false x b e = absurd cc

module _ {A : Type 0} where
  pub length-first_of : (f : ℕ → A) (n : ℕ) → length (first_of f n) ≡ n
  length-first_of f zero = refl
  length-first_of f (suc n) = omega (arith, length-first_of (λ k. f (suc k)) n)

  at_first : (f : ℕ → A) (n k : ℕ) (other : A) → k < n → item_or (first_of f n) k other ≡ f k
  at_first f zero k other h = absurd (omega (arith, h))
  at_first f (suc n) zero other h = refl
  at_first f (suc n) (suc k) other h = at_first (λ j. f (suc j)) n k other (omega (arith, h))

  at_none : (xs : List A) (k : ℕ) (other : A) → length xs ≤ k → item_or xs k other ≡ other
  at_none [] k other h = refl
  at_none (x ∷ xs) zero other h = absurd (omega (arith, h))
  at_none (x ∷ xs) (suc k) other h = at_none xs k other (omega (arith, h))

module _ {S I : Type 0} (installed : S → I → S) where
  abbrev after_list : List I → Option S → ℕ → Option S
  after_list list opening k = option_map (λ o. fold installed o (take k list)) opening

  -- A value that was known at the last look is known after this one.
  keeps : (past : Option (Knowledge S I)) (v w : Knowledge S I) → IsAhead past v → Takes installed past v w → (k : ℕ) (b : S)
      → value_at installed (known past v) k ≡ Some b → value_at installed w k ≡ Some b
  keeps None v w ahead t k b e =
      let up : length v.installs ≤ length w.installs = StartsWith-length w.installs v.installs t.seen in
      let opening : w.opening ≡ v.opening = ap (λ (z : Knowledge S I). z.opening) t.same in
      let before : w.before ≡ v.before = ap (λ (z : Knowledge S I). z.before) t.same in
      passes (leb k (length v.installs)) (leb k (length w.installs)) _ _ b (λ h. grind (arith, nat_tests))
      (λ h. let low : k ≤ length v.installs = grind (arith, nat_tests) in
      let front : take k w.installs ≡ take k v.installs = ap (take k) t.seen.1 ∙ take-append-le k v.installs t.seen.0 low in
      (λ i. item_or (before i) k (option_map (λ o. fold installed o (front i)) (opening i))))
      e
  keeps (Some past) v w ahead t k b e =
      let up : length v.installs ≤ length w.installs = StartsWith-length w.installs v.installs t.seen in
      let low : leb k (length past.installs) ≡ true = was_true (leb k (length past.installs)) _ b e in
      let below : k ≤ length past.installs = grind (arith, nat_tests) in
      let before : w.before ≡ values installed past = ap (λ (z : Knowledge S I). z.before) t.same in
      let within : leb k (length w.installs) ≡ true = grind (arith, nat_tests) in
      true_here (leb k (length w.installs)) _ within
      ∙ ap (λ (xs : List (Option S)). item_or xs k (after_list w.installs w.opening k)) before
      ∙ at_first (value_at installed past) (suc (length past.installs)) k (after_list w.installs w.opening k) (omega (arith, below))
      ∙ e

  known_below : (past : Option (Knowledge S I)) (now : Knowledge S I) → IsAhead past now → length (known past now).installs ≤ length now.installs
  known_below (Some past) now h = omega (arith, h)
  known_below None now h = omega arith

  pub follows : (past : Option (Knowledge S I)) (v w : Knowledge S I) → IsAhead past v → Takes installed past v w → Follows installed (known past v) w
  follows past v w ahead t = record {
    rises = omega (arith, known_below past v ahead, StartsWith-length w.installs v.installs t.seen);
    keeps = keeps past v w ahead t;
  }

  -- The value after all known installs is known, if the opening value is.
  pub value_at-here : (w : Knowledge S I) (opening : S) → length w.before ≤ length w.installs → w.opening ≡ Some opening → value_at installed w (front_seen w) ≡ Some (fold installed opening w.installs)
  value_at-here w opening short is =
      let n : ℕ = length w.installs in
      let whole : leb n n ≡ true = grind (arith, nat_tests) in
      true_here (leb n n) _ whole ∙ at_none w.before n (after_list w.installs w.opening n) short
      ∙ (λ i. option_map (λ (o : S). fold installed o (take_all n w.installs (omega arith) i)) (is i))

  pub shown_here : (w : Knowledge S I) (value : S) (opening : Option S) → w.opening ≡ opening → is_some opening ≡ true → length w.before ≤ length w.installs
      → ((o : S) → w.opening ≡ Some o → value ≡ fold installed o w.installs) → value_at installed w (front_seen w) ≡ Some value
  shown_here w value (Some opening) is there short means = value_at-here w opening short is ∙ sym (ap (λ (s : S). Some s) (means opening is))
  shown_here w value None is there short means = absurd cc

  -- A reader that looked and ended the look has taken a list.
  pub took : (past late : Option (Knowledge S I)) (v w now : Knowledge S I) → Takes installed past v w → late ≡ None → now ≡ w → StaysOrTakes installed past v late now
  took past late v w now t none is = inr (none, subst (λ (k : Knowledge S I). Takes installed past v k) (sym is) t)

  -- A reader that did not look is unchanged.
  pub stayed : (past : Option (Knowledge S I)) (v now : Knowledge S I) → now ≡ v → StaysOrTakes installed past v past now
  stayed past v now is = inl (refl, is)

  -- A reader that looked once, saw fewer installs than `least`, and ended the look loses no knowledge.
  pub refuses : (least : ℕ) (past late : Option (Knowledge S I)) (v w now : Knowledge S I) → IsAhead past v → Takes installed past v w → length w.installs < least → late ≡ None → now ≡ w
      → Follows installed (known past v) (known late now) × LooksBelow least (known past v) (known late now)
  refuses least past late v w now ahead t few none is =
      let same : known late now ≡ w = ap (λ (o : Option (Knowledge S I)). known o now) none ∙ is in
      let looked : LooksBelow least (known past v) w = inr (length w.installs, ap (λ (z : Knowledge S I). z.fronts) t.same, few) in (
        subst (Follows installed (known past v)) (sym same) (follows past v w ahead t),
        subst (LooksBelow least (known past v)) (sym same) looked,
      )
