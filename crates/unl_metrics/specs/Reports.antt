-- How reports are read from JSON: which keys, in which order, and which kind of value each key has.
use Rattle.std.specs.Prelude.{ℕ, ◌<◌, List, [], ◌∷◌, map, All, option_and_then, Result, Ok, Err, ok_or, nat_lt, if◌then◌else◌}
use Rattle.serde_json.specs.Data.{Data, Members, no_members, member}
use Rattle.serde_json.specs.Find.{as_object}
use Rattle.serde_json.specs.Events.{members_len}
use Rattle.unl_constraints.specs.Instant.{instant_of}
use Rattle.unl_documents.specs.declared.fault.BadDocument.TheVariants as document_fault
use Rattle.unl_documents.specs.declared.fault.BadDocument.{BadDocument}
use Rattle.unl_documents.specs.declared.field.Field.{Field}
use Rattle.unl_documents.specs.declared.field.Field.TheVariants as field
use Rattle.unl_documents.specs.Kinds.{name, name_of, any_text, any_whole, required, defaulted, object_of, objects}
use Rattle.unl_documents.specs.Parameters.{AreRising}
use Rattle.unl_documents.specs.Reading.{Reading}
use Rattle.unl_documents.specs.Results.{object_in, ◌>>=◌}
use Rattle.unl_metrics.specs.declared.fault.BadReport.{BadReport}
use Rattle.unl_metrics.specs.declared.fault.BadReport.TheVariants.{NotJson, Missing, WrongKind, TooLarge, Memory}
use Rattle.unl_metrics.specs.declared.report.MetricEntry.{MetricEntry}
use Rattle.unl_metrics.specs.declared.report.Report.{Report}
use Rattle.unl_metrics.specs.declared.report.VariantCount.{VariantCount}
use Rattle.unl_metrics.specs.Hours.{hour_of, hours_of_years}

-- ---- valid reports

-- A valid entry: its hour (a number of whole hours since 1970) is in the years 1970 to 9999, and its variants are in byte order of
-- names, each name once.
pub record IsEntry (e : MetricEntry) : Type 0 where
  pub hour : e.hour < hours_of_years
  pub variants : AreRising (map (λ v. v.name) e.variants)

-- A valid report: each entry is valid.
abbrev pub IsReport : Report → Type 0
IsReport report = All IsEntry report.entries

-- ---- kinds

-- The hour of an instant that is given as a text, in whole hours since 1970. `WrongKind` if the value is not a text, the text is not an
-- instant, or the instant is not in the years 1970 to 9999.
unfoldable pub hour : Field → Data → Reading ℕ
hour key value = do
  text ← any_text key value
  ok_or (option_and_then hour_of (instant_of text)) (document_fault.WrongKind key)

-- Reads each member of an object, in the order of the members, and stops at the first fault.
unfoldable pub each_member : {T : Type 0} → (List ℕ → Data → Reading T) → Members → Reading (List T)
each_member kind no_members = Ok []
each_member kind (member key value inside) = do
  first ← kind key value
  others ← each_member kind inside
  Ok (first ∷ others)

-- Reads an object of at most `most` members, each of them by `kind`. `WrongKind` if the value is not an object, `TooLarge` if it has more
-- members. Both are checked before any member is read.
unfoldable pub members : {T : Type 0} → ℕ → (Field → List ℕ → Data → Reading T) → Field → Data → Reading (List T)
members most kind key value = do
  inside ← ok_or (as_object value) (document_fault.WrongKind key)
  if nat_lt most (members_len inside) then Err (document_fault.TooLarge key (members_len inside)) else each_member (kind key) inside

-- A variant's name and its count. The name is checked first. The count is a whole number and can't be null.
unfoldable pub variant_count : Field → List ℕ → Data → Reading VariantCount
variant_count key name value = do
  named ← name_of key name
  count ← any_whole key value
  Ok (record { name = named; count = count })

-- ---- reports

-- The counts of a feature in an app during an hour, from an object. Absent and null keys count as 0 or as no variants.
unfoldable pub entry_of : List ℕ → List ℕ → ℕ → Data → Reading MetricEntry
entry_of app feature at value = do
  ons ← defaulted 0 any_whole field.Yes value
  offs ← defaulted 0 any_whole field.No value
  variants ← defaulted [] (members 100 variant_count) field.Variants value
  Ok (record { app = app; feature = feature; hour = at; yes = ons; no = offs; variants = variants })

-- The entry of a toggle, a member of the object at `toggles`. First its key is checked, which is the feature's name, and then its value,
-- which must be an object with counts.
unfoldable pub toggle_of : List ℕ → ℕ → Field → List ℕ → Data → Reading MetricEntry
toggle_of app at key feature value = do
  named ← name_of key feature
  object_of (entry_of app named at) key value

-- The entries of an app's bucket: its start is required and gives the hour; its toggles default to none.
unfoldable pub bucket_of : List ℕ → Data → Reading (List MetricEntry)
bucket_of app value = do
  at ← required hour field.Start value
  defaulted [] (members 10000 (toggle_of app at)) field.Toggles value

-- The report that one app sends: its name and its bucket, both required.
unfoldable pub single_of : Data → Reading Report
single_of value = do
  app ← required name field.AppName value
  entries ← required (object_of (bucket_of app)) field.Bucket value
  Ok (record { entries = entries })

-- The entry of one item of a bulk report. The feature's name, the app's name and the timestamp are required.
unfoldable pub bulk_entry_of : Data → Reading MetricEntry
bulk_entry_of value = do
  feature ← required name field.FeatureName value
  app ← required name field.AppName value
  at ← required hour field.Timestamp value
  entry_of app feature at value

-- The bulk report that an edge sends for its apps: at most 10,000 items.
unfoldable pub bulk_of : Data → Reading Report
bulk_of value = do
  entries ← required (objects 10000 bulk_entry_of) field.Metrics value
  Ok (record { entries = entries })

-- ---- faults

-- A report, or why it can't be read.
abbrev pub ReportReading : Type 0
ReportReading = Result Report BadReport

-- The report fault for a document fault. A duplicate name and a count that is not a whole number are `WrongKind`.
abbrev pub report_fault : BadDocument → BadReport
report_fault document_fault.NotJson = NotJson
report_fault (document_fault.Missing key) = Missing key
report_fault (document_fault.WrongKind key) = WrongKind key
report_fault (document_fault.TooLarge key n) = TooLarge key n
report_fault (document_fault.DuplicateName key name) = WrongKind key
report_fault (document_fault.NotWhole key) = WrongKind key
report_fault document_fault.Memory = Memory

-- The result of reading a report, with a document fault turned into a report fault.
abbrev pub as_report : Reading Report → ReportReading
as_report (Ok report) = Ok report
as_report (Err e) = Err (report_fault e)

-- Parses the bytes as a JSON object and reads the report from it by `reads`. Bytes that are not a JSON object are `NotJson`.
abbrev pub report_in : (Data → Reading Report) → List ℕ → ReportReading
report_in reads bytes = as_report (ok_or (object_in bytes) document_fault.NotJson >>= reads)

-- The report that one app sends, from its bytes.
unfoldable pub single_report_of : List ℕ → ReportReading
single_report_of bytes = report_in single_of bytes

-- The bulk report that an edge sends, from its bytes.
unfoldable pub bulk_report_of : List ℕ → ReportReading
bulk_report_of bytes = report_in bulk_of bytes
