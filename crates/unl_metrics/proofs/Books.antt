-- A book stays in order when entries are added.
use Rattle.std.proofs.Common.{◌≡◌, ℕ, true, false, cond, T, List, [], ◌∷◌, map, fold, refl, sym, subst, nat_cmp}
use Rattle.std.proofs.lemmas.List.Elements.{All-cons, All-head, All-tail, All-nil}
use Rattle.std.specs.Cmp.Lexicographic.{slice_cmp}
use Rattle.std.specs.FinMap.Entries.{put, find, is_sorted, below_all, by_order, is_sorted-put}
use Rattle.std.specs.List.{AllByRecursion}
use Rattle.std.specs.List.Sorted.{IsStrictlySortedBy}
use Rattle.std.specs.Ordering.{eq_by_cmp, is_lt}
use Rattle.std.specs.Prelude.{All, Option, Some, None, IfSome}
use Rattle.std.specs.declared.cmp.Ordering.TheVariants.{Less, Equal, Greater}
use Rattle.unl_documents.specs.Parameters.{AreRising}
use Rattle.unl_metrics.specs.declared.report.MetricEntry.{MetricEntry}
use Rattle.unl_metrics.specs.declared.report.VariantCount.{VariantCount}
use Rattle.unl_metrics.specs.Book.{Book, MetricKey, Tally, Variants, key_cmp, key_of, tally_of, pair, counted, tally_sum, added, with_variant, with_tally, fits, IsCounted, HasOrderedKeys, IsMetricsBook}
use Rattle.unl_metrics.specs.Reports.{IsEntry}
use Rattle.unl_metrics.proofs.Entries.{both_of}
use Rattle.unl_metrics.proofs.Order.{keys_total}
use Rattle.unl_metrics.proofs.Variants.{stays_sorted}

-- The row that `Row::plus` returns has the key of the first row and the sum of both tallies.
pub plus_is : (environment other_environment copied : List ℕ) (old other new : MetricEntry) (this that : MetricKey × Tally) → copied ≡ environment → ((e : List ℕ) → key_of e new ≡ key_of e old) → tally_of new ≡ tally_sum (tally_of old) (tally_of other)
    → counted environment old ≡ this → counted other_environment other ≡ that → counted copied new ≡ (this.0, tally_sum this.1 that.1)
plus_is environment other_environment copied old other new this that same key tally is was =
    rw (← is, ← was, same) (λ i. (key environment i, tally i))

-- The variant names of a tally ascend.
abbrev pub HasNamesInOrder : Tally → Type 0
HasNamesInOrder t = T (is_sorted (slice_cmp nat_cmp) t.variants)

sum_is_sorted : (variants others : Variants) → T (is_sorted (slice_cmp nat_cmp) variants) → T (is_sorted (slice_cmp nat_cmp) (fold with_variant variants others))
sum_is_sorted variants [] sorted = sorted
sum_is_sorted variants (v ∷ others) sorted = sum_is_sorted (with_variant variants v) others (stays_sorted variants v sorted)

found_in_order : (k : MetricKey) (book : Book) → All IsCounted book → IfSome (find key_cmp k book) HasNamesInOrder
found_in_order k [] each = tt
found_in_order k (e ∷ book) each = elim (eq_by_cmp key_cmp k e.0) as (λ b. IfSome (cond b (Some e.1) (find key_cmp k book)) HasNamesInOrder) [
  | true ↦ (All-head IsCounted e book each).variants
  | false ↦ found_in_order k book (All-tail IsCounted e book each)
]

added_in_order : (before : Option Tally) (t : Tally) → IfSome before HasNamesInOrder → HasNamesInOrder t → HasNamesInOrder (added tally_sum before t)
unfolding tally_sum
added_in_order None t sorted here = here
added_in_order (Some s) t sorted here = sum_is_sorted s.variants t.variants sorted

each_put : (k : MetricKey) (t : Tally) (book : Book) → All IsCounted book → IsCounted (k, t) → All IsCounted (put key_cmp k t book)
each_put k t [] each this = All-cons IsCounted (k, t) [] this each
each_put k t (e ∷ book) each this = elim (key_cmp k e.0) as (λ r. All IsCounted (by_order r ((k, t) ∷ e ∷ book) ((e.0, t) ∷ book) (e ∷ put key_cmp k t book))) [
  | Less ↦ All-cons IsCounted (k, t) (e ∷ book) this each
  | Equal ↦ All-cons IsCounted (e.0, t) book (record { hour = (All-head IsCounted e book each).hour; variants = this.variants }) (All-tail IsCounted e book each)
  | Greater ↦ All-cons IsCounted e (put key_cmp k t book) (All-head IsCounted e book each) (each_put k t book (All-tail IsCounted e book each) this)
]

pub stays_in_order : (book : Book) (e : MetricKey × Tally) → HasOrderedKeys book → IsCounted e → HasOrderedKeys (with_tally book e)
stays_in_order book e order this = record {
  rising = is_sorted-put key_cmp keys_total e.0 _ book order.rising;
  each = each_put e.0 (added tally_sum (find key_cmp e.0 book) e.1) book order.each (record { hour = this.hour; variants = added_in_order (find key_cmp e.0 book) e.1 (found_in_order e.0 book order.each) this.variants });
}

-- The empty book is valid.
pub no_keys : IsMetricsBook []
unfolding fits
no_keys = record { order = record { rising = tt; each = All-nil IsCounted }; fit = refl }

-- ---- entries of reports

names_below : (name : List ℕ) (variants : List VariantCount) → AllByRecursion (λ other. slice_cmp nat_cmp name other ≡ Less) (map (λ v. v.name) variants) → T (below_all (slice_cmp nat_cmp) name (map pair variants))
names_below name [] h = tt
names_below name (v ∷ variants) h = both_of (is_lt (slice_cmp nat_cmp name v.name)) (below_all (slice_cmp nat_cmp) name (map pair variants)) (subst (λ r. T (is_lt r)) (sym h.0) tt) (names_below name variants h.1)

names_rise : (variants : List VariantCount) → AreRising (map (λ v. v.name) variants) → T (is_sorted (slice_cmp nat_cmp) (map pair variants))
unfolding IsStrictlySortedBy
names_rise [] h = tt
names_rise (v ∷ variants) h = both_of (below_all (slice_cmp nat_cmp) v.name (map pair variants)) (is_sorted (slice_cmp nat_cmp) (map pair variants)) (names_below v.name variants h.0) (names_rise variants h.1)

pub entry_counted : (environment : List ℕ) (e : MetricEntry) → IsEntry e → IsCounted (counted environment e)
entry_counted environment e is = record { hour = is.hour; variants = names_rise e.variants is.variants }
