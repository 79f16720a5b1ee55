-- The bulk report in which the counts of an environment are sent upstream.
use Rattle.std.specs.Prelude.{ℕ, zero, suc, List, [], ◌∷◌, length, map, take, Bool, nat_le, Option, Some, None, if◌then◌else◌}
use Rattle.serde_json.specs.Data.{Data, string, array, object, Items, Members, no_members, put}
use Rattle.serde_json.specs.View.{items_of}
use Rattle.serde_json.specs.Written.{compact_text}
use Rattle.unl_documents.specs.declared.field.Field.TheVariants as field
use Rattle.unl_documents.specs.Writing.{with, count, list_data}
use Rattle.unl_metrics.specs.Book.{Book, MetricKey, Tally, Variants, counted_in}
use Rattle.unl_metrics.specs.Hours.{hour_text}

-- ---- as JSON

-- The members of a JSON object after the variant counts are put in, one after the other.
abbrev pub with_counts : Variants → Members → Members
with_counts [] members = members
with_counts (v ∷ variants) members = with_counts variants (put v.0 (count v.1) members)

-- The variant counts as JSON: an object of numbers.
unfoldable pub variants_data : Variants → Data
variants_data variants = object (with_counts variants no_members)

-- A key and its tally as JSON: an item of a bulk report.
unfoldable pub counted_data : MetricKey × Tally → Data
counted_data (key, tally) = object (
    with field.AppName (string key.app) (
    with field.Environment (string key.environment) (
    with field.FeatureName (string key.feature) (
    with field.No (count tally.no) (
    with field.Timestamp (string (hour_text key.hour)) (
    with field.Variants (variants_data tally.variants) (
    with field.Yes (count tally.yes)
    no_members)))))))

-- The bulk report with these items: `{"applications":[],"metrics":[..]}`.
unfoldable pub bulk_of_items : Items → Data
bulk_of_items items = object (
    with field.Applications (list_data string []) (
    with field.Metrics (array items)
    no_members))

-- The bulk report of these keys and their tallies.
abbrev pub bulk_data : Book → Data
bulk_data book = bulk_of_items (items_of (map counted_data book))

-- ---- the limit of its length

-- The greatest length of a bulk report's text, in bytes.
abbrev pub longest_bulk : ℕ
longest_bulk = 1048576

-- The length of the text of the bulk report of these keys, in bytes.
unfoldable pub bulk_length : Book → ℕ
bulk_length book = length (compact_text (bulk_data book))

-- The greatest number from 1 to the given one that passes the test, or 0 if none does.
unfoldable pub greatest : (ℕ → Bool) → ℕ → ℕ
greatest passes zero = 0
greatest passes (suc n) = if passes (suc n) then suc n else greatest passes n

-- The number of keys in the longest prefix of the book that fits into one bulk report.
unfoldable pub room_for : Book → ℕ
room_for book = greatest (λ n. nat_le (bulk_length (take n book)) longest_bulk) (length book)

-- The bulk report of the longest prefix of the keys that fits, and the number of keys in it. `None` if there is no key.
abbrev pub bulk_report : Book → Option (Data × ℕ)
bulk_report [] = None
bulk_report (e ∷ book) = Some (bulk_data (take (room_for (e ∷ book)) (e ∷ book)), room_for (e ∷ book))

-- The bulk report that is sent for an environment, and the number of keys in it. `None` if the environment has no key.
unfoldable pub bulk : List ℕ → Book → Option (Data × ℕ)
bulk environment book = bulk_report (counted_in environment book)
