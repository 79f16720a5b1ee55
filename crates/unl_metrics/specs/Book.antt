-- A metrics book: a finite map from keys to tallies (the counts at a key), as a list in ascending order of keys.
use Rattle.std.specs.Prelude.{◌≡◌, ◌<◌, ◌+◌, ◌-◌, ◌^◌, ℕ, zero, suc, min, List, [], ◌∷◌, map, length, fold, All, Bool, true, ◌&&◌, nat_le}
use Rattle.std.specs.Prelude.{Option, Some, None, T, Result, Ok, Err, if◌then◌else◌}
use Rattle.std.specs.Cmp.Lexicographic.{slice_cmp}
use Rattle.std.specs.FinMap.Entries.{put, find, is_sorted, where_key}
use Rattle.std.specs.List.{list_all, prefix_len}
use Rattle.std.specs.Ordering.{nat_cmp, on, is_lt, eq_by_cmp}
use Rattle.std.specs.Str.{bytes_eq}
use Rattle.std.specs.declared.cmp.Ordering.{Ordering}
use Rattle.unl_metrics.specs.declared.refusal.AddRefusal.{AddRefusal}
use Rattle.unl_metrics.specs.declared.refusal.AddRefusal.TheVariants.{Full}
use Rattle.unl_metrics.specs.declared.report.MetricEntry.{MetricEntry}
use Rattle.unl_metrics.specs.declared.report.Report.{Report}
use Rattle.unl_metrics.specs.declared.report.VariantCount.{VariantCount}
use Rattle.unl_metrics.specs.Hours.{hours_of_years}

-- ---- keys and counts

-- What is counted: a feature in an app during an hour, in an environment.
pub record MetricKey : Type 0 where
  pub environment : List ℕ
  pub app : List ℕ
  pub feature : List ℕ
  pub hour : ℕ

-- The key as a list of lists of numbers, in the order in which keys are compared. The hour is a list of one number.
abbrev pub key_parts : MetricKey → List (List ℕ)
key_parts k = k.environment ∷ k.app ∷ k.feature ∷ (k.hour ∷ []) ∷ []

-- The order of keys: by environment, app, feature and hour.
abbrev pub key_cmp : MetricKey → MetricKey → Ordering
key_cmp = on key_parts (slice_cmp (slice_cmp nat_cmp))

-- How many times each variant was given: a finite map from names to counts, in byte order of names.
abbrev pub Variants : Type 0
Variants = List (List ℕ × ℕ)

-- How many times a feature was on, how many times off, and how many times each variant was given.
pub record Tally : Type 0 where
  pub yes : ℕ
  pub no : ℕ
  pub variants : Variants

-- The keys with their tallies, in ascending order of keys.
abbrev pub Book : Type 0
Book = List (MetricKey × Tally)

-- ---- sums

-- A sum that saturates at 2 ^ 64 - 1.
abbrev pub sum : ℕ → ℕ → ℕ
sum a b = min (a + b) (2 ^ 64 - 1)

-- The sum of an earlier value and a value, or the value itself if there is no earlier one.
abbrev pub added : {X : Type 0} → (X → X → X) → Option X → X → X
added plus None x = x
added plus (Some before) x = plus before x

-- A finite map after a value is added to the value at a key, or inserted if the map doesn't have the key.
abbrev pub with_entry : {K X : Type 0} → (K → K → Ordering) → (X → X → X) → List (K × X) → K × X → List (K × X)
with_entry order plus entries (k, x) = put order k (added plus (find order k entries) x) entries

-- The variant counts after one more count is added.
abbrev pub with_variant : Variants → List ℕ × ℕ → Variants
with_variant = with_entry (slice_cmp nat_cmp) sum

-- The sum of two tallies.
unfoldable pub tally_sum : Tally → Tally → Tally
tally_sum s t = record { yes = sum s.yes t.yes; no = sum s.no t.no; variants = fold with_variant s.variants t.variants }

-- A book after a tally is added at a key.
abbrev pub with_tally : Book → MetricKey × Tally → Book
with_tally = with_entry key_cmp tally_sum

-- A book after the entries of a list are added, one by one. The list may have a key several times, and need not be in order.
unfoldable pub sum_of : Book → Book → Book
sum_of book others = fold with_tally book others

-- A variant's name and count.
abbrev pub pair : VariantCount → List ℕ × ℕ
pair v = (v.name, v.count)

-- The key of a report's entry, in an environment.
abbrev pub key_of : List ℕ → MetricEntry → MetricKey
key_of environment e = record { environment = environment; app = e.app; feature = e.feature; hour = e.hour }

-- The tally of a report's entry.
abbrev pub tally_of : MetricEntry → Tally
tally_of e = record { yes = e.yes; no = e.no; variants = map pair e.variants }

-- The key of a report's entry in an environment, and the entry's tally.
abbrev pub counted : List ℕ → MetricEntry → MetricKey × Tally
counted environment e = (key_of environment e, tally_of e)

-- A book after the entries of a report are added, for an environment.
unfoldable pub book_sum : Book → List ℕ → Report → Book
book_sum book environment report = sum_of book (map (counted environment) report.entries)

-- ---- the value at a key

-- A key's tally in a book, if the book has the key.
abbrev pub tally_at : MetricKey → Book → Option Tally
tally_at = find key_cmp

-- A variant's count, if the variant has one.
abbrev pub count_at : List ℕ → Variants → Option ℕ
count_at = find (slice_cmp nat_cmp)

-- All tallies of a key in a list that may have it several times.
abbrev pub tallies_at : MetricKey → Book → List Tally
tallies_at key others = map (λ e. e.1) (where_key key_cmp (eq_by_cmp key_cmp key) others)

-- The sum of an optional value and a value: the value itself if there is no other.
abbrev pub and_more : {X : Type 0} → (X → X → X) → Option X → X → Option X
and_more plus before x = Some (added plus before x)

-- The sum of two optional values. If one of them is absent, the sum is the other one; if both are, there is none.
abbrev pub sum_of_both : {X : Type 0} → (X → X → X) → Option X → Option X → Option X
sum_of_both plus before None = before
sum_of_both plus before (Some x) = and_more plus before x

-- The position of a key in a list in ascending order, or where it would be inserted: the number of entries at the start of the list whose
-- keys come before the key.
abbrev pub place : {K X : Type 0} → (K → K → Ordering) → K → List (K × X) → ℕ
place order k entries = prefix_len (λ e. is_lt (order e.0 k)) entries

-- ---- limits

-- The tally has at most 100 variants.
abbrev pub has_few_variants : MetricKey × Tally → Bool
has_few_variants (key, tally) = nat_le (length tally.variants) 100

-- At most 10,000 keys, and at most 100 variants at each.
unfoldable pub fits : Book → Bool
fits book = nat_le (length book) 10000 && list_all has_few_variants book

-- The book if it is within the limits, otherwise the error `Full`.
abbrev pub if_fits : Book → Result Book AddRefusal
if_fits book = if fits book then Ok book else Err Full

-- A valid key and tally: the key's hour is in the years 1970 to 9999, and the tally's variants are in byte order of names, each name once.
pub record IsCounted (entry : MetricKey × Tally) : Type 0 where
  pub hour : entry.0.hour < hours_of_years
  pub variants : T (is_sorted (slice_cmp nat_cmp) entry.1.variants)

-- The keys are in ascending order, each once, and each key and its tally are valid.
pub record HasOrderedKeys (book : Book) : Type 0 where
  pub rising : T (is_sorted key_cmp book)
  pub each : All IsCounted book

-- A valid book: the keys are in ascending order, each once, each key and its tally are valid, and the limits are met.
pub record IsMetricsBook (book : Book) : Type 0 where
  pub order : HasOrderedKeys book
  pub fit : fits book ≡ true

-- ---- environments

-- The key is in the environment.
abbrev pub is_of : List ℕ → MetricKey → Bool
is_of environment key = bytes_eq key.environment environment

-- The keys of a book in an environment, with their tallies.
abbrev pub counted_in : List ℕ → Book → Book
counted_in environment book = where_key key_cmp (is_of environment) book

-- The book without the first `count` keys of an environment, or without all of its keys if there are fewer.
unfoldable pub acknowledge : List ℕ → ℕ → Book → Book
acknowledge environment zero book = book
acknowledge environment (suc count) [] = []
acknowledge environment (suc count) (e ∷ book) =
    if is_of environment e.0 then acknowledge environment count book else e ∷ acknowledge environment (suc count) book
