-- The conditions under which entries that are sent in a bulk report are read back unchanged.
use Rattle.std.specs.Prelude.{◌≡◌, ℕ, ◌≤◌, List, map, All, Some, Ok}
use Rattle.serde_json.specs.Data.{Data}
use Rattle.unl_documents.specs.Limits.{IsName, IsListOf}
use Rattle.unl_documents.specs.Parameters.{AreRising}
use Rattle.unl_documents.specs.Results.{json_of}
use Rattle.unl_metrics.specs.declared.report.MetricEntry.{MetricEntry}
use Rattle.unl_metrics.specs.declared.report.VariantCount.{VariantCount}
use Rattle.unl_metrics.specs.Book.{Book, MetricKey, Tally}
use Rattle.unl_metrics.specs.Reports.{bulk_report_of}

-- The latest hour that can be read from a text: that of 9999-12-30T22:00:00Z. Its first second is the last that `jiff` reads.
abbrev pub last_hour : ℕ
last_hour = 70389502

-- The variant's name is within the limits of names: it has 1 to 255 bytes.
abbrev pub HasValidName : VariantCount → Type 0
HasValidName v = IsName v.name

-- At most 100 variants, whose names are within the limits of names and in byte order, each name once.
pub record AreVariants (variants : List VariantCount) : Type 0 where
  pub rising : AreRising (map (λ v. v.name) variants)
  pub names : IsListOf 100 HasValidName variants

-- An entry as it is read: names within the limits of names, an hour that can be read, and at most 100 variants.
pub record IsReadable (e : MetricEntry) : Type 0 where
  pub app : IsName e.app
  pub feature : IsName e.feature
  pub hour : e.hour ≤ last_hour
  pub variants : AreVariants e.variants

-- At most 10,000 entries, each of which is readable.
abbrev pub AreReadable : List MetricEntry → Type 0
AreReadable entries = IsListOf 10000 IsReadable entries

-- A variant's name and count as a `VariantCount`.
abbrev pub named : List ℕ × ℕ → VariantCount
named v = record { name = v.0; count = v.1 }

-- The report entry of a key and its tally.
abbrev pub entry_at : MetricKey × Tally → MetricEntry
entry_at (key, tally) =
    record { app = key.app; feature = key.feature; hour = key.hour; yes = tally.yes; no = tally.no; variants = map named tally.variants }

-- The report entries of keys and their tallies.
abbrev pub entries_at : Book → List MetricEntry
entries_at book = map entry_at book

-- A key and its tally that can be sent and read back: the names of the app, the feature and the variants are within the limits of names,
-- and the hour can be read.
pub record IsSendable (e : MetricKey × Tally) : Type 0 where
  pub app : IsName e.0.app
  pub feature : IsName e.0.feature
  pub hour : e.0.hour ≤ last_hour
  pub variants : All (λ v. IsName v.0) e.1.variants

-- Bytes that are a JSON text of the value are read as the bulk report of these entries.
abbrev pub IsReadAs : Data → List MetricEntry → Type 0
IsReadAs value entries = (bytes : List ℕ) → json_of bytes ≡ Some value → bulk_report_of bytes ≡ Ok (record { entries = entries })
