-- No line of a report is empty.
use Rattle.std.proofs.Common.{◌<◌, ℕ, List, ◌++◌, length, Bool, true, false, cond, arith, length-append}
use Rattle.std.specs.Prelude.{codes, decimal}
use Rattle.unl_spec_runner.specs.declared.document.Test.{Test}
use Rattle.unl_spec_runner.specs.declared.expected.Expected.{Expected}
use Rattle.unl_spec_runner.specs.Expected.{agrees, expected_text}
use Rattle.unl_spec_runner.specs.Report.{line_of, pass_line, fail_line, quoted}

-- A text with a nonempty prefix is not empty.
starts : (prefix bytes : List ℕ) → 0 < length prefix → 0 < length (prefix ++ bytes)
starts prefix bytes has = rw (length-append prefix bytes) (omega (arith, has))

passing : (number : ℕ) (description : List ℕ) → 0 < length (pass_line number description)
unfolding pass_line
passing number description = starts (codes "pass ") (decimal number ++ (codes " " ++ (description ++ codes "\n"))) (omega arith)

failing : (number : ℕ) (description expected given : List ℕ) → 0 < length (fail_line number description expected given)
unfolding fail_line
failing number description expected given =
    starts (codes "fail ") (decimal number ++ (codes " " ++ (description ++ (codes " expected " ++ (expected ++ (codes " given " ++ (given ++ codes "\n"))))))) (omega arith)

either : (b : Bool) (xs ys : List ℕ) → 0 < length xs → 0 < length ys → 0 < length (cond b xs ys)
either true xs ys x y = x
either false xs ys x y = y

pub line_has_bytes : (number : ℕ) (test : Test) (given : Expected) → 0 < length (line_of number test given)
unfolding line_of
line_has_bytes number test given =
    either (agrees test.expected given) (pass_line number (quoted test.description)) (fail_line number (quoted test.description) (expected_text test.expected) (expected_text given))
    (passing number (quoted test.description))
    (failing number (quoted test.description) (expected_text test.expected) (expected_text given))
