-- Entries that were read can be sent, and so can sums of books that can be sent.
use Rattle.std.proofs.Common.{◌≡◌, ℕ, zero, suc, ◌≤◌, true, false, cond, T, List, [], ◌∷◌, map, fold, take, length, nat_cmp, refl, sym, subst, ap, ◌∙◌, arith}
use Rattle.std.proofs.lemmas.Bool.Decides.{nat_tests}
use Rattle.std.proofs.lemmas.List.{length-map, length-take, take-map}
use Rattle.std.proofs.lemmas.List.Elements.{All-cons, All-head, All-tail, All-nil, All-map}
use Rattle.std.specs.Cmp.Lexicographic.{slice_cmp}
use Rattle.std.specs.FinMap.Entries.{put, find, is_sorted, below_all, by_order}
use Rattle.std.specs.List.{AllByRecursion, list_all}
use Rattle.std.specs.List.Sorted.{IsStrictlySortedBy}
use Rattle.std.specs.Ordering.{eq_by_cmp, is_lt}
use Rattle.std.specs.Prelude.{All, Option, Some, None, IfSome, is_some, unwrap_or, option_map, nat_le}
use Rattle.std.specs.declared.cmp.Ordering.{Ordering}
use Rattle.std.specs.declared.cmp.Ordering.TheVariants.{Less, Equal, Greater}
use Rattle.serde_json.specs.Data.{Data}
use Rattle.serde_json.specs.View.{view}
use Rattle.serde_json.specs.declared.value.Value.{Value}
use Rattle.unl_documents.specs.Limits.{IsName}
use Rattle.unl_documents.specs.Parameters.{AreRising}
use Rattle.unl_documents.specs.Results.{json_of}
use Rattle.unl_metrics.specs.declared.report.MetricEntry.{MetricEntry}
use Rattle.unl_metrics.specs.Book.{Book, MetricKey, Tally, Variants, key_cmp, is_of, pair, counted, counted_in, sum, sum_of, tally_sum, added, with_variant, with_tally, acknowledge, has_few_variants, fits, IsCounted, IsMetricsBook}
use Rattle.unl_metrics.specs.Bulk.{bulk, bulk_data, bulk_report, room_for}
use Rattle.unl_metrics.specs.Readable.{HasValidName, IsReadable, AreReadable, IsSendable, IsReadAs, named, entry_at, entries_at}
use Rattle.unl_metrics.proofs.Entries.{each_true, first_of, second_of, less}
use Rattle.unl_metrics.proofs.RoundTrip.{text_back}
use Rattle.unl_metrics.proofs.Sending.{entries_again}

-- The name in a pair of a variant's name and count is within the limits of names.
abbrev IsCalled : List ℕ × ℕ → Type 0
IsCalled v = IsName v.0

-- ---- finite maps

-- If a property holds for all entries and for a new entry, and still holds for an entry that gets the new entry's value, then it holds for
-- all entries after the new one is put in.
all_put : {K X : Type 0} (R : K → K → Ordering) (P : K × X → Type 0) (k : K) (x : X) (es : List (K × X)) → All P es → P (k, x) → ((e : K × X) → P e → P (e.0, x)) → All P (put R k x es)
all_put R P k x [] each this moved = All-cons P (k, x) [] this each
all_put R P k x (e ∷ es) each this moved = elim (R k e.0) as (λ r. All P (by_order r ((k, x) ∷ e ∷ es) ((e.0, x) ∷ es) (e ∷ put R k x es))) [
  | Less ↦ All-cons P (k, x) (e ∷ es) this each
  | Equal ↦ All-cons P (e.0, x) es (moved e (All-head P e es each)) (All-tail P e es each)
  | Greater ↦ All-cons P e (put R k x es) (All-head P e es each) (all_put R P k x es (All-tail P e es each) this moved)
]

names_stay : (variants others : Variants) → All IsCalled variants → All IsCalled others → All IsCalled (fold with_variant variants others)
names_stay variants [] each more = each
names_stay variants (v ∷ others) each more =
    names_stay (with_variant variants v) others (all_put (slice_cmp nat_cmp) IsCalled v.0 (added sum (find (slice_cmp nat_cmp) v.0 variants) v.1) variants each (All-head IsCalled v others more) (λ e called. called)) (All-tail IsCalled v others more)

abbrev HasNames : Tally → Type 0
HasNames t = All IsCalled t.variants

found_names : (k : MetricKey) (book : Book) → All IsSendable book → IfSome (find key_cmp k book) HasNames
found_names k [] each = tt
found_names k (e ∷ book) each = elim (eq_by_cmp key_cmp k e.0) as (λ b. IfSome (cond b (Some e.1) (find key_cmp k book)) HasNames) [
  | true ↦ (All-head IsSendable e book each).variants
  | false ↦ found_names k book (All-tail IsSendable e book each)
]

added_names : (before : Option Tally) (t : Tally) → IfSome before HasNames → HasNames t → HasNames (added tally_sum before t)
unfolding tally_sum
added_names None t names here = here
added_names (Some s) t names here = names_stay s.variants t.variants names here

one_sendable : (book : Book) (e : MetricKey × Tally) → All IsSendable book → IsSendable e → All IsSendable (with_tally book e)
one_sendable book e each this =
    let names = added_names (find key_cmp e.0 book) e.1 (found_names e.0 book each) this.variants in
    all_put key_cmp IsSendable e.0 (added tally_sum (find key_cmp e.0 book) e.1) book each (record { app = this.app; feature = this.feature; hour = this.hour; variants = names })
    (λ f is. record { app = is.app; feature = is.feature; hour = is.hour; variants = names })

pub sums_sendable : (book others : Book) → All IsSendable book → All IsSendable others → All IsSendable (sum_of book others)
unfolding sum_of
sums_sendable book [] each more = each
sums_sendable book (e ∷ others) each more = sums_sendable (with_tally book e) others (one_sendable book e each (All-head IsSendable e others more)) (All-tail IsSendable e others more)

pub rest_sendable : (environment : List ℕ) (count : ℕ) (book : Book) → All IsSendable book → All IsSendable (acknowledge environment count book)
unfolding acknowledge
rest_sendable environment zero book each = each
rest_sendable environment (suc count) [] each = each
rest_sendable environment (suc count) (e ∷ book) each = elim (is_of environment e.0) as (λ b. All IsSendable (cond b (acknowledge environment count book) (e ∷ acknowledge environment (suc count) book))) [
  | true ↦ rest_sendable environment count book (All-tail IsSendable e book each)
  | false ↦ All-cons IsSendable e (acknowledge environment (suc count) book) (All-head IsSendable e book each) (rest_sendable environment (suc count) book (All-tail IsSendable e book each))
]

-- ---- entries

pub entries_sendable : (environment : List ℕ) (entries : List MetricEntry) → AreReadable entries → All IsSendable (map (counted environment) entries)
entries_sendable environment entries valid =
    All-map IsSendable (counted environment) entries (λ k d lt. let e = valid.1 k d lt in record { app = e.app; feature = e.feature; hour = e.hour; variants = All-map IsCalled pair _ e.variants.names.1 })

names_above : (name : List ℕ) (variants : Variants) → T (below_all (slice_cmp nat_cmp) name variants) → AllByRecursion (λ other. slice_cmp nat_cmp name other ≡ Less) (map (λ v. v.name) (map named variants))
names_above name [] h = tt
names_above name (v ∷ variants) h = (less (slice_cmp nat_cmp name v.0) (first_of (is_lt (slice_cmp nat_cmp name v.0)) (below_all (slice_cmp nat_cmp) name variants) h), names_above name variants (second_of (is_lt (slice_cmp nat_cmp name v.0)) (below_all (slice_cmp nat_cmp) name variants) h))

names_rise : (variants : Variants) → T (is_sorted (slice_cmp nat_cmp) variants) → AreRising (map (λ v. v.name) (map named variants))
unfolding IsStrictlySortedBy
names_rise [] h = tt
names_rise (v ∷ variants) h = (names_above v.0 variants (first_of (below_all (slice_cmp nat_cmp) v.0 variants) (is_sorted (slice_cmp nat_cmp) variants) h), names_rise variants (second_of (below_all (slice_cmp nat_cmp) v.0 variants) (is_sorted (slice_cmp nat_cmp) variants) h))

few : (n : ℕ) → nat_le n 100 ≡ true → n ≤ 100
few n e = grind (arith, nat_tests, e)

entry_readable : (e : MetricKey × Tally) → IsSendable e → IsCounted e → has_few_variants e ≡ true → IsReadable (entry_at e)
entry_readable e sendable is small = record {
  app = sendable.app;
  feature = sendable.feature;
  hour = sendable.hour;
  variants = record { rising = names_rise e.1.variants is.variants; names = (omega (arith, length-map e.1.variants named, few (length e.1.variants) small), All-map HasValidName named e.1.variants sendable.variants) };
}

each_readable : (environment : List ℕ) (n : ℕ) (book : Book) → All IsSendable book → All IsCounted book → list_all has_few_variants book ≡ true → All IsReadable (entries_at (take n (counted_in environment book)))
each_readable environment zero book sendable is small = All-nil IsReadable
each_readable environment (suc n) [] sendable is small = All-nil IsReadable
each_readable environment (suc n) (e ∷ book) sendable is small =
    let two = each_true (has_few_variants e) (list_all has_few_variants book) small in
    let this = entry_readable e (All-head IsSendable e book sendable) (All-head IsCounted e book is) two.0 in
    elim (is_of environment e.0) as (λ b. All IsReadable (entries_at (take (suc n) (cond b (e ∷ counted_in environment book) (counted_in environment book))))) [
      | true ↦ All-cons IsReadable (entry_at e) (entries_at (take n (counted_in environment book))) this (each_readable environment n book (All-tail IsSendable e book sendable) (All-tail IsCounted e book is) two.1)
      | false ↦ each_readable environment (suc n) book (All-tail IsSendable e book sendable) (All-tail IsCounted e book is) two.1
    ]

no_more : (environment : List ℕ) (book : Book) → length (counted_in environment book) ≤ length book
no_more environment [] = omega arith
no_more environment (e ∷ book) = elim (is_of environment e.0) as (λ b. length (cond b (e ∷ counted_in environment book) (counted_in environment book)) ≤ length (e ∷ book)) [
  | true ↦ omega (arith, no_more environment book)
  | false ↦ omega (arith, no_more environment book)
]

small_book : (book : Book) → fits book ≡ true → (length book ≤ 10000) × (list_all has_few_variants book ≡ true)
unfolding fits
small_book book e = let two = each_true (nat_le (length book) 10000) (list_all has_few_variants book) e in (grind (arith, nat_tests, two.0), two.1)

prefix_again : (environment : List ℕ) (n : ℕ) (book : Book) → map (counted environment) (entries_at (take n (counted_in environment book))) ≡ take n (counted_in environment book)
prefix_again environment n book = ap (map (counted environment)) (sym (take-map entry_at n (counted_in environment book))) ∙ sym (take-map (counted environment) n (entries_at (counted_in environment book))) ∙ ap (take n) (entries_again environment book)

pub book_back : (environment : List ℕ) (book : Book) (n : ℕ) → IsMetricsBook book → All IsSendable book → IsReadAs (bulk_data (take n (counted_in environment book))) (entries_at (take n (counted_in environment book)))
book_back environment book n is sendable bytes spelled =
    let prefix = take n (counted_in environment book) in
    let small = small_book book is.fit in
    let count : length (entries_at prefix) ≤ 10000 = omega (arith, length-map prefix entry_at, length-take n (counted_in environment book), no_more environment book, small.0) in
    let again : json_of bytes ≡ Some (bulk_data (map (counted environment) (entries_at prefix))) = spelled ∙ ap (λ (b : Book). Some (bulk_data b)) (sym (prefix_again environment n book)) in
    text_back environment (entries_at prefix) (count, each_readable environment n book sendable is.order.each small.1) bytes again

report_back : (environment : List ℕ) (book found : Book) (sent : Data × ℕ) → IsMetricsBook book → All IsSendable book → found ≡ counted_in environment book → Some sent ≡ bulk_report found → IsReadAs sent.0 (entries_at (take sent.1 (counted_in environment book)))
report_back environment book [] sent is sendable same report = absurd (subst T (ap is_some report) tt)
report_back environment book (e ∷ found) sent is sendable same report =
    let room = room_for (e ∷ found) in
    let parts : sent ≡ (bulk_data (take room (e ∷ found)), room) = ap (λ o. unwrap_or o sent) report in
    let prefix : take room (counted_in environment book) ≡ take room (e ∷ found) = ap (take room) (sym same) in
    subst (λ (s : Data × ℕ). IsReadAs s.0 (entries_at (take s.1 (counted_in environment book)))) (sym parts)
    (subst (λ (b : Book). IsReadAs (bulk_data b) (entries_at (take room (counted_in environment book)))) prefix (book_back environment book room is sendable))

pub sent_back : (environment : List ℕ) (book : Book) (found : Option (Value × ℕ)) → IsMetricsBook book → All IsSendable book → option_map (λ sent. (view sent.0, sent.1)) found ≡ bulk environment book → IfSome found (λ sent. IsReadAs (view sent.0) (entries_at (take sent.1 (counted_in environment book))))
unfolding bulk
sent_back environment book None is sendable report = tt
sent_back environment book (Some sent) is sendable report = report_back environment book (counted_in environment book) (view sent.0, sent.1) is sendable refl report
