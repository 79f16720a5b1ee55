-- The report of test files: a line for each test, numbered from 1 across the whole input, and at the end a line with the numbers
-- of passed and failed tests.
use Rattle.std.specs.Prelude.{ℕ, ◌+◌, List, [], ◌∷◌, ◌++◌, codes, decimal, map, Bool, not, unwrap_or, if◌then◌else◌}
use Rattle.std.specs.List.{flat_map, count_by}
use Rattle.serde_json.specs.Data.{string}
use Rattle.serde_json.specs.Written.{compact_text}
use Rattle.unl_base.specs.declared.draws.Draw.{Draw}
use Rattle.unl_dependencies.specs.declared.evaluation.Evaluation.{Evaluation}
use Rattle.unl_dependencies.specs.Evaluation.{evaluation_of, off}
use Rattle.unl_documents.specs.declared.state.State.{State}
use Rattle.unl_strategies.specs.Moment.{Moment}
use Rattle.unl_spec_runner.specs.declared.expected.Expected.{Expected}
use Rattle.unl_spec_runner.specs.declared.document.Test.{Test}
use Rattle.unl_spec_runner.specs.declared.document.TestFile.{TestFile}
use Rattle.unl_spec_runner.specs.Expected.{given_as, agrees, expected_text}

-- A report: its text, and the number of tests that passed and of those that failed.
pub record Report : Type 0 where
  pub text : List ℕ
  pub passed : ℕ
  pub failed : ℕ

-- A test, with the state of its file.
pub record Case : Type 0 where
  pub state : State
  pub test : Test

-- The moment of an evaluation: the time and the random word of the draw, and an empty host name.
abbrev pub moment_of : Draw → Moment
moment_of draw = record { now = draw.now; word = draw.word; host = [] }

-- The evaluation of the feature that a test names, in the state of the test's file. A feature that the state lacks is off.
unfoldable pub evaluated : Draw → Case → Evaluation
evaluated draw c = unwrap_or (evaluation_of c.state c.test.toggle c.test.context (moment_of draw)) off

-- The actual result of a test, in the form of the expected one.
unfoldable pub given : Draw → Case → Expected
given draw c = given_as c.test.expected (evaluated draw c)

-- The test passes: its actual result is the expected one.
unfoldable pub passes : Draw → Case → Bool
passes draw c = agrees c.test.expected (given draw c)

-- The test fails: it doesn't pass.
abbrev pub fails : Draw → Case → Bool
fails draw c = not (passes draw c)

-- A text as a JSON string.
abbrev pub quoted : List ℕ → List ℕ
quoted text = compact_text (string text)

-- The line of a test that passed.
unfoldable pub pass_line : ℕ → List ℕ → List ℕ
pass_line number description = codes "pass " ++ (decimal number ++ (codes " " ++ (description ++ codes "\n")))

-- The line of a test that failed.
unfoldable pub fail_line : ℕ → List ℕ → List ℕ → List ℕ → List ℕ
fail_line number description expected given =
    codes "fail " ++ (decimal number
    ++ (codes " " ++ (description ++ (codes " expected " ++ (expected ++ (codes " given " ++ (given ++ codes "\n")))))))

-- The line of the test with this number, whose actual result is `given`.
unfoldable pub line_of : ℕ → Test → Expected → List ℕ
line_of number test given =
    if agrees test.expected given then pass_line number (quoted test.description)
    else fail_line number (quoted test.description) (expected_text test.expected) (expected_text given)

-- The lines of tests, the first of which has this number.
abbrev pub lines_from : ℕ → Draw → List Case → List ℕ
lines_from number draw [] = []
lines_from number draw (c ∷ cs) = line_of number c.test (given draw c) ++ lines_from (number + 1) draw cs

-- The line with the numbers of passed and failed tests.
unfoldable pub counts_line : ℕ → ℕ → List ℕ
counts_line passed failed = codes "passed " ++ (decimal passed ++ (codes " failed " ++ (decimal failed ++ codes "\n")))

-- A test as a case, with the state of its file.
abbrev pub case_of : TestFile → Test → Case
case_of file test = record { state = file.state; test = test }

-- The cases of a file: those of its feature tests, then those of its variant tests.
abbrev pub cases_of : TestFile → List Case
cases_of file = map (case_of file) (file.tests ++ file.variant_tests)

-- The report of the given tests.
unfoldable pub report_of_cases : Draw → List Case → Report
report_of_cases draw cases = record {
  text = lines_from 1 draw cases ++ counts_line (count_by (passes draw) cases) (count_by (fails draw) cases);
  passed = count_by (passes draw) cases;
  failed = count_by (fails draw) cases;
}

-- The report of files, in their order.
unfoldable pub report_of_files : Draw → List TestFile → Report
report_of_files draw files = report_of_cases draw (flat_map cases_of files)
