-- The result of checking an input of test files, and the text that is sent.
use Rattle.std.specs.Prelude.{◌≡◌, ℕ, List, Option, Result, Ok, Err}
use Rattle.unl_base.specs.declared.draws.Draw.{Draw}
use Rattle.unl_documents.specs.Reading.{Reading, ◌>>=◌}
use Rattle.unl_input.specs.declared.refusal.InputRefusal.{InputRefusal}
use Rattle.unl_input.specs.declared.refusal.InputRefusal.TheVariants as refusal
use Rattle.unl_input.specs.Answer.{SaysAnswerPrefix, RefusesSilently, InputOutcome, Says, input_outcome}
use Rattle.unl_spec_runner.specs.declared.fault.CheckFault.{CheckFault}
use Rattle.unl_spec_runner.specs.declared.fault.CheckFault.TheVariants.{BadFile, TooLarge, ReadFault, WriteFault, Memory}
use Rattle.unl_spec_runner.specs.declared.fault.Summary.{Summary}
use Rattle.unl_spec_runner.specs.Report.{Report, report_of_files}
use Rattle.unl_spec_runner.specs.TestFile.{files_in}

-- The report of the test files in an input, or the first fault of the input.
unfoldable pub report_reading : Draw → List ℕ → Reading Report
report_reading draw bytes = do
  files ← files_in bytes
  Ok (report_of_files draw files)

-- The report of an input, or why the input is refused. The size of the input is checked first.
abbrev pub report_of : Draw → List ℕ → InputOutcome Report
report_of draw bytes = input_outcome (report_reading draw) bytes

-- The text of a report.
abbrev pub text_of : Report → List ℕ
text_of report = report.text

-- The error of the check for a refusal of its input.
abbrev pub fault_of : InputRefusal → CheckFault
fault_of (refusal.BadInput fault) = BadFile fault
fault_of refusal.TooLarge = TooLarge

-- The whole input was read, its whole report was sent, and the summary has the report's counts. `left`, `left_after`, `old` and
-- `new` are as in `Checks`.
pub record ReportsAll (draw : Draw) (summary : Summary) (left left_after old new : Option (List ℕ)) : Type 0 where
  pub report : Report
  pub says : Says (report_reading draw) text_of (Ok report) left left_after old new
  pub passed : summary.passed ≡ report.passed
  pub failed : summary.failed ≡ report.failed

-- The effect of a check, by its result. `left` and `left_after` are the bytes still to be read from the source before and
-- after, and `old` and `new` are the bytes sent to the sink before and after. Each is `None` if it is not observable. If the input
-- is refused, a read fails or memory runs out, nothing was sent. If a write fails, a prefix of the report was sent.
abbrev pub Checks : Result Summary CheckFault → Draw → Option (List ℕ) → Option (List ℕ) → Option (List ℕ) → Option (List ℕ) → Type 0
Checks (Ok summary) draw left left_after old new = ReportsAll draw summary left left_after old new
Checks (Err (BadFile fault)) draw left left_after old new =
    RefusesSilently (report_reading draw) (refusal.BadInput fault) left left_after old new
Checks (Err TooLarge) draw left left_after old new = RefusesSilently (report_reading draw) refusal.TooLarge left left_after old new
Checks (Err ReadFault) draw left left_after old new = new ≡ old
Checks (Err WriteFault) draw left left_after old new = SaysAnswerPrefix (report_reading draw) text_of left left_after old new
Checks (Err Memory) draw left left_after old new = new ≡ old
