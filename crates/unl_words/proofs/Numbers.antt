-- Texts of digits, as read by `parse`.
use Rattle.std.proofs.Common.{◌≡◌, ◌<◌, ◌&&◌, ℕ, Bool, true, false, nat_le, nat_lt, length, ◌^◌, List, [], ◌∷◌, Err, refl, sym, true≢false, arith}
use Rattle.clap.proofs.WalkLemmas.{both}
use Rattle.std.proofs.lemmas.Bool.Decides.{nat_tests}
use Rattle.std.specs.List.{list_all}
use Rattle.std.specs.Char.{is_ascii_digit}
use Rattle.std.specs.Str.Parse.{AllDigits, IsNumeral, digits_value, without_leading_plus}
use Rattle.std.proofs.lemmas.Str.{digit_value_digit}
use Rattle.std.proofs.lemmas.Str.Parse.{tells_all_ascii_digits, without_leading_plus_none}
use Rattle.unl_words.specs.Values.{is_number, number_within}
use Rattle.unl_words.specs.declared.refusal.WordsRefusal.TheVariants.{Bad}

all_digits : (text : List ℕ) → list_all is_ascii_digit text ≡ true → AllDigits 10 text
all_digits [] all = tt
all_digits (c ∷ cs) all =
    let here = tells_all_ascii_digits.parts c cs all in
    (omega (arith, digit_value_digit c here.0), all_digits cs here.1)

and_false : (a : Bool) → (a && false) ≡ false
and_false true = refl
and_false false = refl

-- A text of one or more ASCII digits has no sign, and `parse` accepts each of its bytes.
digits : (text : List ℕ) → is_number text ≡ true → (without_leading_plus text ≡ text) × IsNumeral 10 text
digits [] is = absurd (true≢false (sym is))
digits (c ∷ cs) is =
    let all = (both (nat_lt 0 (length (c ∷ cs))) (list_all is_ascii_digit (c ∷ cs)) is).1 in
    let here = tells_all_ascii_digits.parts c cs all in
    (without_leading_plus_none (c ∷ cs) (λ plus. omega (arith, here.0)), (omega arith, all_digits (c ∷ cs) all))

-- A text of digits that `parse` rejects is 2^64 or more, so it is above any bound less than 2^64, and refused.
pub number_too_great : (least most : ℕ) (text : List ℕ) → is_number text ≡ true → most < 2 ^ 64
    → ¬ (IsNumeral 10 (without_leading_plus text) × (digits_value 10 (without_leading_plus text) < 2 ^ 64))
    → Err Bad ≡ number_within least most text
unfolding number_within
number_too_great least most text is fits none =
    let d = digits text is in
    let great : ¬ (digits_value 10 text < 2 ^ 64) = λ less. none (rw d.0 (d.1, less)) in
    let over : nat_le (digits_value 10 text) most ≡ false = grind (arith, nat_tests) in
    rw (is, over, and_false (nat_le least (digits_value 10 text))) refl
