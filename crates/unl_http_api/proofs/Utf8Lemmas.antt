-- The result of `str::from_utf8` agrees with `if_utf8`, which is the bytes if they are UTF-8, and otherwise `None`.
use Rattle.std.proofs.Common.{◌≡◌, ℕ, ◌<◌, List, length, false, ◌==◌, Some, None, cond, option_map, Result, Ok, Err, MatchResult, sym, ap, ◌∙◌, arith, Bor, eq-eqb}
use Rattle.std.specs.Result.{result_ok}
use Rattle.std.specs.Str.{IsUtf8, IsValidUpTo}
use Rattle.std.specs.Str.Lossy.{utf8_valid_len}
use Rattle.std.proofs.lemmas.Str.{utf8_valid_len-IsUtf8, utf8_valid_len-IsValidUpTo}
use Rattle.std.proofs.lemmas.Bool.Decides.{nat_tests}
use Rattle.unl_http_api.specs.Route.{if_utf8}

smaller : (m n : ℕ) → m < n → (m == n) ≡ false
smaller m n low = grind (arith, nat_tests)

pub text_is : {E : Type 0} (r : Result (Bor (List ℕ)) E) (bytes : List ℕ) (valid : E → ℕ)
    → MatchResult r (λ s. (s.now ≡ bytes) × IsUtf8 bytes) (λ e. ¬ (IsUtf8 bytes) × IsValidUpTo bytes (valid e)) → option_map (λ s. s.now) (result_ok r) ≡ if_utf8 bytes
text_is (Ok s) bytes valid h =
    ap Some h.0 ∙ sym (ap (λ b. cond b (Some bytes) None) (eq-eqb (utf8_valid_len bytes) (length bytes) (utf8_valid_len-IsUtf8 bytes h.1)))
text_is (Err e) bytes valid h =
    let len : utf8_valid_len bytes ≡ valid e = utf8_valid_len-IsValidUpTo bytes (valid e) h.1 in
    let low : utf8_valid_len bytes < length bytes = omega (arith, h.1.short) in
    sym (ap (λ b. cond b (Some bytes) None) (smaller (utf8_valid_len bytes) (length bytes) low))
