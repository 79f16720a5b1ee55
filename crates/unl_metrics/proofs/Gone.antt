-- An acknowledgement drops the first keys of its environment, and leaves the keys of other environments.
use Rattle.std.proofs.Common.{◌≡◌, ℕ, zero, suc, Bool, true, false, cond, List, [], ◌∷◌, drop, refl, sym, ap, ◌∙◌}
use Rattle.std.specs.Cmp.Lexicographic.{bytes_decides}
use Rattle.std.specs.Prelude.{◌≢◌}
use Rattle.unl_metrics.specs.Book.{Book, MetricKey, is_of, counted_in, acknowledge}

pub these_go : (environment : List ℕ) (count : ℕ) (book : Book) → counted_in environment (acknowledge environment count book) ≡ drop count (counted_in environment book)
unfolding acknowledge
these_go environment zero book = refl
these_go environment (suc count) [] = refl
these_go environment (suc count) (e ∷ book) =
    elim (is_of environment e.0) as (λ b. is_of environment e.0 ≡ b → counted_in environment (cond b (acknowledge environment count book) (e ∷ acknowledge environment (suc count) book)) ≡ drop (suc count) (cond b (e ∷ counted_in environment book) (counted_in environment book))) [
      | true ↦ λ here. these_go environment count book
      | false ↦ λ here. rw here (these_go environment (suc count) book)
    ] refl

not_both : (environment other : List ℕ) (key : MetricKey) → environment ≢ other → is_of environment key ≡ true → is_of other key ≡ false
not_both environment other key apart here = by (is_of other key) refl
  where
    by : (b : Bool) → is_of other key ≡ b → is_of other key ≡ false
    by false e = e
    by true e = absurd (apart (sym ((bytes_decides key.environment environment).0 here) ∙ (bytes_decides key.environment other).0 e))

pub others_stay : (environment other : List ℕ) (count : ℕ) (book : Book) → environment ≢ other → counted_in other (acknowledge environment count book) ≡ counted_in other book
unfolding acknowledge
others_stay environment other zero book apart = refl
others_stay environment other (suc count) [] apart = refl
others_stay environment other (suc count) (e ∷ book) apart =
    elim (is_of environment e.0) as (λ b. is_of environment e.0 ≡ b → counted_in other (cond b (acknowledge environment count book) (e ∷ acknowledge environment (suc count) book)) ≡ counted_in other (e ∷ book)) [
      | true ↦ λ here. rw (not_both environment other e.0 apart here) (others_stay environment other count book apart)
      | false ↦ λ here. ap (λ (es : Book). cond (is_of other e.0) (e ∷ es) es) (others_stay environment other (suc count) book apart)
    ] refl
