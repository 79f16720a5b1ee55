-- Variant counts as entries of a finite map.
use Rattle.std.proofs.Common.{◌≡◌, ℕ, ◌<◌, true, false, T, List, ◌∷◌, ◌++◌, map, length, get_or, take, drop, refl, sym, ap, ◌∙◌, nat_cmp}
use Rattle.std.proofs.Math.ListN.{get_or-map}
use Rattle.std.proofs.lemmas.Cmp.{nat_list_cmp_total}
use Rattle.std.proofs.lemmas.List.{get_or_default, map-append, map-set, take-map, drop-map}
use Rattle.std.proofs.lemmas.Option.{slice_get-map}
use Rattle.std.specs.Cmp.Lexicographic.{slice_cmp}
use Rattle.std.specs.FinMap.Entries.{is_sorted, is_sorted-put}
use Rattle.std.specs.Option.{option_map_or}
use Rattle.std.specs.Ordering.{is_eq}
use Rattle.std.specs.Prelude.{Option, Some, None, option_map, insert, slice_set, slice_get}
use Rattle.unl_metrics.specs.declared.report.VariantCount.{VariantCount}
use Rattle.unl_metrics.specs.Book.{Variants, pair, place, sum, with_variant}
use Rattle.unl_metrics.proofs.Entries.{is_present, present_within, entry_new, entry_old}

map_or-map : {A B C : Type 0} (f : A → B) (g : B → C) (o : Option A) (c : C) → option_map_or g (option_map f o) c ≡ option_map_or (λ a. g (f a)) o c
map_or-map f g None c = refl
map_or-map f g (Some a) c = refl

same_present : (counts : List VariantCount) (name : List ℕ) (n : ℕ) → option_map_or (λ (e : List ℕ × ℕ). is_eq (slice_cmp nat_cmp e.0 name)) (slice_get (map pair counts) n) false ≡ option_map_or (λ (v : VariantCount). is_eq (slice_cmp nat_cmp v.name name)) (slice_get counts n) false
same_present counts name n = ap (λ o. option_map_or (λ (e : List ℕ × ℕ). is_eq (slice_cmp nat_cmp e.0 name)) o false) (slice_get-map pair counts n) ∙ map_or-map pair (λ e. is_eq (slice_cmp nat_cmp e.0 name)) (slice_get counts n) false

pub map-insert : {A B : Type 0} (f : A → B) (xs : List A) (n : ℕ) (x : A) → map f (insert xs n x) ≡ insert (map f xs) n (f x)
map-insert f xs n x = map-append f (take n xs) (x ∷ drop n xs) ∙ ap (λ ys. ys ++ f x ∷ map f (drop n xs)) (sym (take-map f n xs)) ∙ ap (λ ys. take n (map f xs) ++ f x ∷ ys) (sym (drop-map f n xs))

pub count_new : (counts : List VariantCount) (v : VariantCount) (n : ℕ) → T (is_sorted (slice_cmp nat_cmp) (map pair counts)) → n ≡ place (slice_cmp nat_cmp) v.name (map pair counts)
    → option_map_or (λ (w : VariantCount). is_eq (slice_cmp nat_cmp w.name v.name)) (slice_get counts n) false ≡ false → map pair (insert counts n v) ≡ with_variant (map pair counts) (pair v)
count_new counts v n sorted here free =
    let none : is_present (slice_cmp nat_cmp) v.name (map pair counts) ≡ false = rw (← here) (same_present counts v.name n ∙ free) in
    map-insert pair counts n v ∙ ap (λ m. insert (map pair counts) m (pair v)) here ∙ sym (entry_new (slice_cmp nat_cmp) nat_list_cmp_total sum (pair v) (map pair counts) sorted none)

pub count_old : (counts : List VariantCount) (v named old : VariantCount) (n total : ℕ) → n ≡ place (slice_cmp nat_cmp) v.name (map pair counts)
    → option_map_or (λ (w : VariantCount). is_eq (slice_cmp nat_cmp w.name v.name)) (slice_get counts n) false ≡ true → named ≡ get_or counts n named → old ≡ get_or counts n old → total ≡ sum old.count v.count
    → map pair (slice_set counts n (record { name = named.name; count = total })) ≡ with_variant (map pair counts) (pair v)
count_old counts v named old n total here found is was adds =
    let one : is_present (slice_cmp nat_cmp) v.name (map pair counts) ≡ true = rw (← here) (same_present counts v.name n ∙ found) in
    let lt : n < length counts = present_within (λ (w : VariantCount). is_eq (slice_cmp nat_cmp w.name v.name)) counts n found in
    let same : named ≡ old = is ∙ get_or_default counts n named old lt ∙ sym was in
    let at : get_or (map pair counts) n (pair old) ≡ pair old = get_or-map pair counts n old ∙ ap pair (sym was) in
    map-set pair counts n (record { name = named.name; count = total })
    ∙ ap (λ (w : VariantCount). slice_set (map pair counts) n (w.name, total)) same
    ∙ ap (λ m. slice_set (map pair counts) n (old.name, m)) adds
    ∙ sym (entry_old (slice_cmp nat_cmp) nat_list_cmp_total sum (pair v) (map pair counts) (pair old) one ∙ rw (← here, at) refl)

pub stays_sorted : (variants : Variants) (v : List ℕ × ℕ) → T (is_sorted (slice_cmp nat_cmp) variants) → T (is_sorted (slice_cmp nat_cmp) (with_variant variants v))
stays_sorted variants v sorted = is_sorted-put (slice_cmp nat_cmp) nat_list_cmp_total v.0 _ variants sorted
