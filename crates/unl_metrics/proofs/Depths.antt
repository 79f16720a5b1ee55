-- The nesting depth of a bulk report is at most 4.
use Rattle.std.proofs.Common.{ℕ, ◌≤◌, List, [], ◌∷◌, map, arith}
use Rattle.std.specs.Cmp.Lexicographic.{slice_cmp}
use Rattle.std.specs.Ordering.{nat_cmp, match_ordering}
use Rattle.std.specs.declared.cmp.Ordering.TheVariants.{Less, Equal, Greater}
use Rattle.serde_json.specs.Data.{Members, no_members, member, put, depth, items_depth, members_depth}
use Rattle.serde_json.specs.View.{items_of}
use Rattle.unl_documents.specs.Writing.{count}
use Rattle.unl_metrics.specs.Book.{Book, MetricKey, Tally, Variants}
use Rattle.unl_metrics.specs.Bulk.{with_counts, variants_data, counted_data, bulk_of_items, bulk_data}

put_flat : (name : List ℕ) (n : ℕ) (ms : Members) → members_depth ms ≤ 0 → members_depth (put name (count n) ms) ≤ 0
put_flat name n no_members h = omega arith
put_flat name n (member other value ms) h =
    let rest = put_flat name n ms (omega arith) in
    elim (slice_cmp nat_cmp name other) as (λ o. members_depth (match_ordering o (member name (count n) (member other value ms)) (member other (count n) ms) (member other value (put name (count n) ms))) ≤ 0) [
      | Less ↦ omega arith
      | Equal ↦ omega arith
      | Greater ↦ omega arith
    ]

counts_flat : (variants : Variants) (ms : Members) → members_depth ms ≤ 0 → members_depth (with_counts variants ms) ≤ 0
counts_flat [] ms h = h
counts_flat (v ∷ variants) ms h = counts_flat variants (put v.0 (count v.1) ms) (put_flat v.0 v.1 ms h)

one_deep : (e : MetricKey × Tally) → depth (counted_data e) ≤ 2
unfolding counted_data variants_data
one_deep e = omega (arith, counts_flat e.1.variants no_members (omega arith))

items_deep : (book : Book) → items_depth (items_of (map counted_data book)) ≤ 2
items_deep [] = omega arith
items_deep (e ∷ book) = omega (arith, one_deep e, items_deep book)

pub shallow : (book : Book) → depth (bulk_data book) ≤ 4
unfolding bulk_of_items
shallow book = omega (arith, items_deep book)
