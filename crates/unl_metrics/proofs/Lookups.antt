-- The tally at a key in the sum of two books is the sum of their tallies at that key.
use Rattle.std.proofs.Common.{◌≡◌, ℕ, true, false, cond, T, List, [], ◌∷◌, map, fold, refl, sym, subst, ap, ◌∙◌, nat_cmp}
use Rattle.std.proofs.lemmas.Cmp.{nat_list_cmp_total}
use Rattle.std.specs.Cmp.{IsTotalOrder}
use Rattle.std.specs.Cmp.Lexicographic.{slice_cmp}
use Rattle.std.specs.FinMap.{slice_cmp-IsAntisymmetric, nat_cmp-IsAntisymmetric}
use Rattle.std.specs.FinMap.Entries.{find, is_sorted, below_all, where_key, find-put, find_tied, same_entries}
use Rattle.std.specs.Ordering.{is_eq, is_lt, eq_by_cmp}
use Rattle.std.specs.Prelude.{Option, Some, None, All, option_to_list, get_or}
use Rattle.std.specs.declared.cmp.Ordering.{Ordering}
use Rattle.std.specs.declared.cmp.Ordering.TheVariants.{Less, Equal, Greater}
use Rattle.unl_metrics.specs.Book.{Book, MetricKey, Tally, key_cmp, key_parts, sum, sum_of, tally_sum, added, with_entry, with_tally, tally_at, tallies_at, count_at, and_more, sum_of_both, IsCounted, HasOrderedKeys}
use Rattle.unl_metrics.proofs.Books.{stays_in_order}
use Rattle.unl_metrics.proofs.Entries.{first_of, second_of, less}
use Rattle.unl_metrics.proofs.Order.{keys_total}
use Rattle.std.proofs.lemmas.List.Elements.{All-head, All-tail}

equal : (r : Ordering) → is_eq r ≡ true → r ≡ Equal
equal Less e = absurd (subst T (sym e) tt)
equal Equal e = refl
equal Greater e = absurd (subst T (sym e) tt)

-- ---- one entry

entry_at_key : {K X : Type 0} (R : K → K → Ordering) → IsTotalOrder R → (plus : X → X → X) (es : List (K × X)) (e : K × X) (q : K) → find R q (with_entry R plus es e) ≡ cond (eq_by_cmp R q e.0) (and_more plus (find R q es) e.1) (find R q es)
entry_at_key R o plus es e q =
    find-put R o q e.0 (added plus (find R e.0 es) e.1) es
    ∙ elim (eq_by_cmp R q e.0) as (λ b. eq_by_cmp R q e.0 ≡ b → cond b (Some (added plus (find R e.0 es) e.1)) (find R q es) ≡ cond b (and_more plus (find R q es) e.1) (find R q es)) [
      | true ↦ λ tied. ap (λ before. Some (added plus before e.1)) (find_tied R o q e.0 (equal (R q e.0) tied) es)
      | false ↦ λ tied. refl
    ] refl

-- ---- many entries

values_at : {K X : Type 0} → (K → K → Ordering) → K → List (K × X) → List X
values_at R q others = map (λ e. e.1) (where_key R (eq_by_cmp R q) others)

all_at_key : {K X : Type 0} (R : K → K → Ordering) → IsTotalOrder R → (plus : X → X → X) (es others : List (K × X)) (q : K) → find R q (fold (with_entry R plus) es others) ≡ fold (and_more plus) (find R q es) (values_at R q others)
unfolding values_at
all_at_key R o plus es [] q = refl
all_at_key R o plus es (e ∷ others) q =
    all_at_key R o plus (with_entry R plus es e) others q
    ∙ ap (λ before. fold (and_more plus) before (map (λ f. f.1) (where_key R (eq_by_cmp R q) others))) (entry_at_key R o plus es e q)
    ∙ elim (eq_by_cmp R q e.0) as (λ b. fold (and_more plus) (cond b (and_more plus (find R q es) e.1) (find R q es)) (map (λ f. f.1) (where_key R (eq_by_cmp R q) others)) ≡ fold (and_more plus) (find R q es) (map (λ f. f.1) (cond b (e ∷ where_key R (eq_by_cmp R q) others) (where_key R (eq_by_cmp R q) others)))) [
      | true ↦ refl
      | false ↦ refl
    ]

-- ---- a finite map has each key at most once

none_tied : {K X : Type 0} (R : K → K → Ordering) → IsTotalOrder R → (q x : K) → R q x ≡ Equal → (es : List (K × X)) → T (below_all R x es) → where_key R (eq_by_cmp R q) es ≡ []
none_tied R o q x tied [] h = refl
none_tied R o q x tied (e ∷ es) h =
    let below : R q e.0 ≡ Less = o.congr q x e.0 tied ∙ less (R x e.0) (first_of (is_lt (R x e.0)) (below_all R x es) h) in
    rw below (none_tied R o q x tied es (second_of (is_lt (R x e.0)) (below_all R x es) h))

one_value : {K X : Type 0} (R : K → K → Ordering) → IsTotalOrder R → (q : K) (es : List (K × X)) → T (is_sorted R es) → values_at R q es ≡ option_to_list (find R q es)
unfolding values_at
one_value R o q [] sorted = refl
one_value R o q (e ∷ es) sorted =
    let above : T (below_all R e.0 es) = first_of (below_all R e.0 es) (is_sorted R es) sorted in
    let rest = one_value R o q es (second_of (below_all R e.0 es) (is_sorted R es) sorted) in
    elim (eq_by_cmp R q e.0) as (λ b. eq_by_cmp R q e.0 ≡ b → map (λ f. f.1) (cond b (e ∷ where_key R (eq_by_cmp R q) es) (where_key R (eq_by_cmp R q) es)) ≡ option_to_list (cond b (Some e.1) (find R q es))) [
      | true ↦ λ tied. ap (λ (fs : List _). e.1 ∷ map (λ f. f.1) fs) (none_tied R o q e.0 (equal (R q e.0) tied) es above)
      | false ↦ λ tied. rest
    ] refl

fold_one : {X : Type 0} (plus : X → X → X) (before more : Option X) → fold (and_more plus) before (option_to_list more) ≡ sum_of_both plus before more
fold_one plus before None = refl
fold_one plus before (Some x) = refl

both_at_key : {K X : Type 0} (R : K → K → Ordering) → IsTotalOrder R → (plus : X → X → X) (es others : List (K × X)) (q : K) → T (is_sorted R others) → find R q (fold (with_entry R plus) es others) ≡ sum_of_both plus (find R q es) (find R q others)
both_at_key R o plus es others q sorted =
    all_at_key R o plus es others q ∙ ap (fold (and_more plus) (find R q es)) (one_value R o q others sorted) ∙ fold_one plus (find R q es) (find R q others)

-- ---- books

pub entries_at_key : (book others : Book) (key : MetricKey) → tally_at key (sum_of book others) ≡ fold (and_more tally_sum) (tally_at key book) (tallies_at key others)
unfolding sum_of values_at
entries_at_key book others key = all_at_key key_cmp keys_total tally_sum book others key

pub books_at_key : (book other : Book) (key : MetricKey) → HasOrderedKeys other → tally_at key (sum_of book other) ≡ sum_of_both tally_sum (tally_at key book) (tally_at key other)
unfolding sum_of
books_at_key book other key order = both_at_key key_cmp keys_total tally_sum book other key order.rising

pub variants_at_name : (s t : Tally) (name : List ℕ) → T (is_sorted (slice_cmp nat_cmp) t.variants) → count_at name (tally_sum s t).variants ≡ sum_of_both sum (count_at name s.variants) (count_at name t.variants)
unfolding tally_sum
variants_at_name s t name sorted = both_at_key (slice_cmp nat_cmp) nat_list_cmp_total sum s.variants t.variants name sorted

pub sum_in_order : (book others : Book) → HasOrderedKeys book → All IsCounted others → HasOrderedKeys (sum_of book others)
unfolding sum_of
sum_in_order book [] order each = order
sum_in_order book (e ∷ others) order each = sum_in_order (with_tally book e) others (stays_in_order book e order (All-head IsCounted e others each)) (All-tail IsCounted e others each)

-- ---- a book is determined by its tallies

same_key : (j k : MetricKey) → key_parts j ≡ key_parts k → j ≡ k
same_key j k e = λ i. record {
  environment = get_or (e i) 0 [];
  app = get_or (e i) 1 [];
  feature = get_or (e i) 2 [];
  hour = get_or (get_or (e i) 3 []) 0 0;
}

tied_keys : (j k : MetricKey) → key_cmp j k ≡ Equal → j ≡ k
tied_keys j k e = same_key j k (slice_cmp-IsAntisymmetric (slice_cmp-IsAntisymmetric nat_cmp-IsAntisymmetric) (key_parts j) (key_parts k) e)

pub same_book : (a b : Book) → HasOrderedKeys a → HasOrderedKeys b → ((key : MetricKey) → tally_at key a ≡ tally_at key b) → a ≡ b
same_book a b first second same = same_entries key_cmp keys_total tied_keys a b first.rising second.rising same
