-- No bulk report has a floating-point number.
use Rattle.std.proofs.Common.{◌≡◌, ◌||◌, ℕ, Bool, true, false, T, List, [], ◌∷◌, map, take, refl, subst, ap, ◌∙◌}
use Rattle.std.specs.Option.{option_map_or}
use Rattle.std.specs.Prelude.{Option, Some, None, option_map, is_some, IfSome}
use Rattle.std.specs.Cmp.Lexicographic.{slice_cmp}
use Rattle.std.specs.Ordering.{nat_cmp, match_ordering}
use Rattle.std.specs.declared.cmp.Ordering.TheVariants.{Less, Equal, Greater}
use Rattle.serde_json.specs.Data.{Data, Members, no_members, member, put}
use Rattle.serde_json.specs.View.{view, items_of}
use Rattle.serde_json.specs.Written.{has_float, items_have_float, members_have_float}
use Rattle.serde_json.specs.declared.value.Value.{Value}
use Rattle.unl_documents.specs.Writing.{count}
use Rattle.unl_metrics.specs.Book.{Book, MetricKey, Tally, Variants, counted_in}
use Rattle.unl_metrics.specs.Bulk.{with_counts, variants_data, counted_data, bulk_of_items, bulk_data, bulk_report, bulk, room_for}

no_float_put : (name : List ℕ) (n : ℕ) (ms : Members) → members_have_float ms ≡ false → members_have_float (put name (count n) ms) ≡ false
no_float_put name n no_members h = refl
no_float_put name n (member other value ms) h = decided (no_float_put name n ms) (has_float value) (members_have_float ms) refl refl h
  where
    decided : (members_have_float ms ≡ false → members_have_float (put name (count n) ms) ≡ false) → (a b : Bool) → has_float value ≡ a → members_have_float ms ≡ b → (a || b) ≡ false
        → members_have_float (put name (count n) (member other value ms)) ≡ false
    decided again true b is more h = absurd cc
    decided again false true is more h = absurd cc
    decided again false false is more h =
        elim (slice_cmp nat_cmp name other) as (λ o. members_have_float (match_ordering o (member name (count n) (member other value ms)) (member other (count n) ms) (member other value (put name (count n) ms))) ≡ false) [
          | Less ↦ rw (is, more) refl
          | Equal ↦ more
          | Greater ↦ rw (is, again more) refl
        ]

no_float_counts : (variants : Variants) (ms : Members) → members_have_float ms ≡ false → members_have_float (with_counts variants ms) ≡ false
no_float_counts [] ms h = h
no_float_counts (v ∷ variants) ms h = no_float_counts variants (put v.0 (count v.1) ms) (no_float_put v.0 v.1 ms h)

pub no_float : (e : MetricKey × Tally) → has_float (counted_data e) ≡ false
unfolding counted_data variants_data
no_float e = rw (no_float_counts e.1.variants no_members refl) refl

no_float_items : (book : Book) → items_have_float (items_of (map counted_data book)) ≡ false
no_float_items [] = refl
no_float_items (e ∷ book) = rw (no_float e, no_float_items book) refl

pub no_float_bulk : (book : Book) → has_float (bulk_data book) ≡ false
unfolding bulk_of_items
no_float_bulk book = rw (no_float_items book) refl

no_float_report : (found : Book) (sent : Data × ℕ) → Some sent ≡ bulk_report found → has_float sent.0 ≡ false
no_float_report [] sent is = absurd (subst T (ap is_some is) tt)
no_float_report (e ∷ found) sent is = ap (λ o. option_map_or (λ (s : Data × ℕ). has_float s.0) o false) is ∙ no_float_bulk (take (room_for (e ∷ found)) (e ∷ found))

pub no_float_sent : (environment : List ℕ) (book : Book) (found : Option (Value × ℕ)) → option_map (λ sent. (view sent.0, sent.1)) found ≡ bulk environment book → IfSome found (λ sent. has_float (view sent.0) ≡ false)
unfolding bulk
no_float_sent environment book None is = tt
no_float_sent environment book (Some sent) is = no_float_report (counted_in environment book) (view sent.0, sent.1) is
