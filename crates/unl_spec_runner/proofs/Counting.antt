-- A report that is built one test at a time equals the report of all tests.
use Rattle.std.proofs.Common.{◌≡◌, ℕ, ◌+◌, List, [], ◌∷◌, ◌++◌, map, Bool, true, false, cond, not, refl, sym, ap, ◌∙◌, arith, append_assoc, append-nil}
use Rattle.std.specs.List.{flat_map, count_by}
use Rattle.std.proofs.lemmas.List.{map-append}
use Rattle.std.proofs.lemmas.List.Sums.{sum_by-cons}
use Rattle.unl_base.specs.declared.draws.Draw.{Draw}
use Rattle.unl_documents.specs.declared.state.State.{State}
use Rattle.unl_spec_runner.specs.declared.document.Test.{Test}
use Rattle.unl_spec_runner.specs.declared.document.TestFile.{TestFile}
use Rattle.unl_spec_runner.specs.Report.{Report, Case, case_of, cases_of, line_of, lines_from, given, passes, fails, report_of_cases, report_of_files}
use Rattle.unl_spec_runner.specs.Steps.{none_yet, with_line, with_case, with_tests, with_file, with_files, with_counts}

-- The report after the given cases, which are added one by one.
abbrev with_cases : Draw → List Case → Report → Report
with_cases draw [] r = r
with_cases draw (c ∷ cs) r = with_cases draw cs (with_case draw c r)

tests_are_cases : (draw : Draw) (state : State) (ts : List Test) (r : Report)
    → with_tests draw state ts r ≡ with_cases draw (map (λ t. record { state = state; test = t }) ts) r
unfolding with_tests
tests_are_cases draw state [] r = refl
tests_are_cases draw state (t ∷ ts) r = tests_are_cases draw state ts (with_case draw (record { state = state; test = t }) r)

cases_joined : (draw : Draw) (xs ys : List Case) (r : Report) → with_cases draw (xs ++ ys) r ≡ with_cases draw ys (with_cases draw xs r)
cases_joined draw [] ys r = refl
cases_joined draw (x ∷ xs) ys r = cases_joined draw xs ys (with_case draw x r)

file_is_cases : (draw : Draw) (f : TestFile) (r : Report) → with_file draw f r ≡ with_cases draw (cases_of f) r
unfolding with_file
file_is_cases draw f r =
    let tests : List Case = map (case_of f) f.tests in
    let variant_tests : List Case = map (case_of f) f.variant_tests in
    tests_are_cases draw f.state f.variant_tests (with_tests draw f.state f.tests r)
    ∙ ap (with_cases draw variant_tests) (tests_are_cases draw f.state f.tests r)
    ∙ sym (cases_joined draw tests variant_tests r)
    ∙ ap (λ cs. with_cases draw cs r) (sym (map-append (case_of f) f.tests f.variant_tests))

files_are_cases : (draw : Draw) (fs : List TestFile) (r : Report) → with_files draw fs r ≡ with_cases draw (flat_map cases_of fs) r
unfolding with_files
files_are_cases draw [] r = refl
files_are_cases draw (f ∷ fs) r =
    files_are_cases draw fs (with_file draw f r)
    ∙ ap (with_cases draw (flat_map cases_of fs)) (file_is_cases draw f r)
    ∙ sym (cases_joined draw (cases_of f) (flat_map cases_of fs) r)

abbrev report : List ℕ → ℕ → ℕ → Report
report text passed failed = record { text = text; passed = passed; failed = failed }

report_is : (t u : List ℕ) (p q f g : ℕ) → t ≡ u → p ≡ q → f ≡ g → report t p f ≡ report u q g
report_is t u p q f g text passed failed = λ i. report (text i) (passed i) (failed i)

-- The report after the given cases, which are added all at once.
abbrev added : Draw → Report → List Case → Report
added draw r cs = record {
  text = r.text ++ lines_from (r.passed + r.failed + 1) draw cs;
  passed = r.passed + count_by (passes draw) cs;
  failed = r.failed + count_by (fails draw) cs;
}

abbrev one : Bool → ℕ
one b = cond b 1 0

-- Adding one case and then the others results in the same report as adding all of them at once.
one_added : (draw : Draw) (line : List ℕ) (b : Bool) (cs : List Case) (t : List ℕ) (p f : ℕ)
    → added draw (with_line line b (record { text = t; passed = p; failed = f })) cs ≡ record {
      text = t ++ (line ++ lines_from (p + f + 1 + 1) draw cs);
      passed = p + (one b + count_by (passes draw) cs);
      failed = f + (one (not b) + count_by (fails draw) cs);
    }
one_added draw line true cs t p f =
    let number : p + 1 + f + 1 ≡ p + f + 1 + 1 = omega arith in
    report_is _ _ _ _ _ _
    (append_assoc t line (lines_from (p + 1 + f + 1) draw cs) ∙ ap (λ n. t ++ (line ++ lines_from n draw cs)) number)
    (omega arith) (omega arith)
one_added draw line false cs t p f =
    let number : p + (f + 1) + 1 ≡ p + f + 1 + 1 = omega arith in
    report_is _ _ _ _ _ _
    (append_assoc t line (lines_from (p + (f + 1) + 1) draw cs) ∙ ap (λ n. t ++ (line ++ lines_from n draw cs)) number)
    (omega arith) (omega arith)

counted : (p : Case → Bool) (c : Case) (cs : List Case) (n : ℕ) → n + count_by p (c ∷ cs) ≡ n + (one (p c) + count_by p cs)
counted p c cs n = ap (λ k. n + k) (sum_by-cons (λ x. cond (p x) 1 0) c cs)

cases_added : (draw : Draw) (cs : List Case) (r : Report) → with_cases draw cs r ≡ added draw r cs
unfolding with_case
cases_added draw [] r = report_is _ _ _ _ _ _ (sym (append-nil r.text)) (omega arith) (omega arith)
cases_added draw (c ∷ cs) r =
    cases_added draw cs (with_case draw c r)
    ∙ one_added draw (line_of (r.passed + r.failed + 1) c.test (given draw c)) (passes draw c) cs r.text r.passed r.failed
    ∙ report_is _ _ _ _ _ _ refl (sym (counted (passes draw) c cs r.passed)) (sym (counted (fails draw) c cs r.failed))

from_none : (draw : Draw) (cs : List Case)
    → added draw none_yet cs ≡ report (lines_from 1 draw cs) (count_by (passes draw) cs) (count_by (fails draw) cs)
from_none draw cs = report_is _ _ _ _ _ _ refl (omega arith) (omega arith)

pub all_counted : (draw : Draw) (files : List TestFile) → with_counts (with_files draw files none_yet) ≡ report_of_files draw files
unfolding report_of_files report_of_cases
all_counted draw files = ap with_counts (files_are_cases draw files none_yet ∙ cases_added draw (flat_map cases_of files) none_yet ∙ from_none draw (flat_map cases_of files))
