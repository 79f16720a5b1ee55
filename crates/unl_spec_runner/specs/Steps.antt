-- A report that is built test by test.
use Rattle.std.specs.Prelude.{ℕ, ◌+◌, List, [], ◌∷◌, ◌++◌, Bool, true, false}
use Rattle.unl_base.specs.declared.draws.Draw.{Draw}
use Rattle.unl_documents.specs.declared.state.State.{State}
use Rattle.unl_spec_runner.specs.declared.document.Test.{Test}
use Rattle.unl_spec_runner.specs.declared.document.TestFile.{TestFile}
use Rattle.unl_spec_runner.specs.Report.{Report, Case, line_of, given, passes, counts_line}

-- An empty report, without the line of counts.
abbrev pub none_yet : Report
none_yet = record { text = []; passed = 0; failed = 0 }

-- The report after the line of one more test. The boolean says whether the test passed.
abbrev pub with_line : List ℕ → Bool → Report → Report
with_line line true r = record { text = r.text ++ line; passed = r.passed + 1; failed = r.failed }
with_line line false r = record { text = r.text ++ line; passed = r.passed; failed = r.failed + 1 }

-- The report after one more test.
unfoldable pub with_case : Draw → Case → Report → Report
with_case draw c r = with_line (line_of (r.passed + r.failed + 1) c.test (given draw c)) (passes draw c) r

-- The report after the given tests, evaluated in the given state.
unfoldable pub with_tests : Draw → State → List Test → Report → Report
with_tests draw state [] r = r
with_tests draw state (t ∷ ts) r = with_tests draw state ts (with_case draw (record { state = state; test = t }) r)

-- The report after the feature tests of a file, then its variant tests.
unfoldable pub with_file : Draw → TestFile → Report → Report
with_file draw file r = with_tests draw file.state file.variant_tests (with_tests draw file.state file.tests r)

-- The report after the tests of files.
unfoldable pub with_files : Draw → List TestFile → Report → Report
with_files draw [] r = r
with_files draw (f ∷ fs) r = with_files draw fs (with_file draw f r)

-- The report with the line of counts at its end.
abbrev pub with_counts : Report → Report
with_counts r = record { text = r.text ++ counts_line r.passed r.failed; passed = r.passed; failed = r.failed }
