use Rattle.std.proofs.Common.{◌≡◌, Bool, true, false, length, refl, sym, arith}
use Rattle.std.proofs.lemmas.List.Sums.{position_or_len_is}
use Rattle.unl_input.specs.Lines.{is_end}
use Rattle.unl_input.proofs.reader.unbroken_len.Goals as goal

fails : (b : Bool) → ¬ (b ≡ true) → b ≡ false
fails true not = absurd (not refl)
fails false not = refl

pub returns-in-Some : goal.returns-in-Some
returns-in-Some c =
    let bytes = c.args.bytes.now in
    let found = c.in-Some.ensures in
    sym (position_or_len_is is_end bytes c.in-Some.len 0 (omega (arith, found.0.high)) (λ k lt. fails _ (found.0.before k (omega arith) lt)) (λ lt. found.1))

pub returns-in-None : goal.returns-in-None
returns-in-None c =
    let bytes = c.args.bytes.now in
    sym (position_or_len_is is_end bytes (length bytes) 0 (omega arith) (λ k lt. fails _ (c.in-None.ensures k (omega arith) lt)) (λ lt. absurd (omega (arith, lt))))
