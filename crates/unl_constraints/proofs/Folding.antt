-- Case folding of ASCII text.
use Rattle.std.proofs.Common.{◌≡◌, ℕ, zero, suc, ◌<◌, List, [], ◌∷◌, map, IsAscii, encode_utf8_all, sym, ap, ◌∙◌, arith}
use Rattle.std.proofs.lemmas.Bool.Decides.{nat_tests}
use Rattle.std.specs.Char.{to_ascii_lowercase}
use Rattle.std.proofs.lemmas.Str.{chars-IsAscii, encodes-IsAscii}
use Rattle.std.proofs.lemmas.Str.Ascii.{All-from_ascii}
use Rattle.caseless.specs.Caseless.{default_case_fold}
use Rattle.caseless.proofs.CaselessLemmas.{default_case_fold-ascii}
use Rattle.unl_constraints.specs.Texts.{folded}

lower_ascii : (c : ℕ) → c < 128 → to_ascii_lowercase c < 128
lower_ascii c small = grind (arith, nat_tests)

lower_is_ascii : (text : List ℕ) → IsAscii text → IsAscii (map to_ascii_lowercase text)
lower_is_ascii [] ascii k = ascii k
lower_is_ascii (c ∷ cs) ascii zero = lower_ascii c (ascii 0)
lower_is_ascii (c ∷ cs) ascii (suc k) = lower_is_ascii cs (λ i. ascii (suc i)) k

-- ASCII text is folded by converting it to lower case.
pub folded_ascii : (text : List ℕ) → IsAscii text → map to_ascii_lowercase text ≡ folded text
unfolding folded
folded_ascii text ascii =
    sym (ap encode_utf8_all (ap default_case_fold (chars-IsAscii text ascii) ∙ default_case_fold-ascii text (All-from_ascii text ascii))
    ∙ encodes-IsAscii (map to_ascii_lowercase text) (lower_is_ascii text ascii))
