-- A bulk report that is written from entries is read back as these entries.
use Rattle.std.proofs.Common.{◌≡◌, ℕ, suc, ◌*◌, ◌/◌, ◌≤◌, true, false, eqb, ltb, List, [], ◌∷◌, ◌++◌, length, map, append_assoc, nat_cmp, nat_lt, Less, Greater, Ok, refl, sym, ap, subst, ◌∙◌, arith}
use Rattle.std.proofs.lemmas.Bool.{le-ltb}
use Rattle.std.proofs.lemmas.Bool.Decides.{nat_tests}
use Rattle.std.proofs.lemmas.Cmp.{nat_list_cmp_total}
use Rattle.std.proofs.lemmas.List.{append-nil}
use Rattle.std.proofs.lemmas.List.Elements.{All-head, All-tail}
use Rattle.std.specs.Cmp.Lexicographic.{slice_cmp}
use Rattle.std.specs.List.{AllByRecursion}
use Rattle.std.specs.List.Sorted.{IsStrictlySortedBy}
use Rattle.std.specs.Ordering.{ordering_reverse}
use Rattle.std.specs.Prelude.{All}
use Rattle.serde_json.specs.Data.{string, array, Members, no_members, member, put}
use Rattle.serde_json.specs.Events.{members_len}
use Rattle.serde_json.specs.View.{items_of}
use Rattle.unl_constraints.specs.Instant.{instant_of}
use Rattle.unl_documents.specs.declared.field.Field.{Field}
use Rattle.unl_documents.specs.declared.field.Field.TheVariants as field
use Rattle.unl_documents.specs.Kinds.{at, name, any_whole, object_of, objects, is_object, always}
use Rattle.unl_documents.specs.Limits.{IsName, IsListOf}
use Rattle.unl_documents.specs.Parameters.{AreRising}
use Rattle.unl_documents.specs.Results.{object_in}
use Rattle.unl_documents.specs.Writing.{count}
use Rattle.unl_documents.proofs.RoundTrip.{name_back, any_text_back, any_whole_back, required_back, defaulted_back, list_back}
use Rattle.unl_metrics.specs.declared.report.MetricEntry.{MetricEntry}
use Rattle.unl_metrics.specs.declared.report.VariantCount.{VariantCount}
use Rattle.unl_metrics.specs.Book.{counted, pair}
use Rattle.unl_metrics.specs.Bulk.{with_counts, variants_data, counted_data, bulk_of_items, bulk_data}
use Rattle.unl_metrics.specs.Hours.{hour_of, hour_text}
use Rattle.unl_metrics.specs.Readable.{IsReadable, AreReadable, IsReadAs}
use Rattle.unl_metrics.specs.Reports.{hour, each_member, members, variant_count, entry_of, bulk_entry_of, bulk_of, bulk_report_of}
use Rattle.unl_metrics.proofs.Calendar.{hour_back}
use Rattle.unl_metrics.proofs.Members.{variant_names}

-- ---- variants

in_order : List VariantCount → Members
in_order [] = no_members
in_order (v ∷ variants) = member v.name (count v.count) (in_order variants)

below_all : (first : List ℕ) (done : List VariantCount) (v : VariantCount) (more : List VariantCount) → AllByRecursion (λ y. slice_cmp nat_cmp first y ≡ Less) (variant_names (done ++ v ∷ more)) → slice_cmp nat_cmp first v.name ≡ Less
below_all first [] v more h = h.0
below_all first (w ∷ done) v more h = below_all first done v more h.1

-- A name that is greater than all names of an object is put last.
put_last : (done : List VariantCount) (v : VariantCount) (more : List VariantCount) → AreRising (variant_names (done ++ v ∷ more)) → put v.name (count v.count) (in_order done) ≡ in_order (done ++ v ∷ [])
unfolding IsStrictlySortedBy in_order
put_last [] v more h = refl
put_last (first ∷ done) v more h =
    let above : slice_cmp nat_cmp v.name first.name ≡ Greater = nat_list_cmp_total.antisymm v.name first.name ∙ ap ordering_reverse (below_all first.name done v more h.0) in
    rw above (ap (member first.name (count first.count)) (put_last done v more h.1))

counts_in_order : (done more : List VariantCount) → AreRising (variant_names (done ++ more)) → with_counts (map pair more) (in_order done) ≡ in_order (done ++ more)
counts_in_order done [] h = ap in_order (sym (append-nil done))
counts_in_order done (v ∷ more) h =
    let moved : (done ++ v ∷ []) ++ more ≡ done ++ v ∷ more = append_assoc done (v ∷ []) more in
    ap (with_counts (map pair more)) (put_last done v more h) ∙ counts_in_order (done ++ v ∷ []) more (subst (λ (vs : List VariantCount). AreRising (variant_names vs)) (sym moved) h) ∙ ap in_order moved

members_len-in_order : (variants : List VariantCount) → members_len (in_order variants) ≡ length variants
unfolding in_order
members_len-in_order [] = refl
members_len-in_order (v ∷ variants) = ap suc (members_len-in_order variants)

variant_back : (key : Field) (v : VariantCount) → IsName v.name → variant_count key v.name (count v.count) ≡ Ok v
unfolding variant_count
variant_back key v valid =
    let filled : eqb (length v.name) 0 ≡ false = grind arith in
    let short : ltb 255 (length v.name) ≡ false = le-ltb _ _ valid.1 in
    rw (filled, short, any_whole_back key v.count) refl

each_back : (key : Field) (variants : List VariantCount) → All (λ v. IsName v.name) variants → each_member (variant_count key) (in_order variants) ≡ Ok variants
unfolding each_member in_order
each_back key [] valid = refl
each_back key (v ∷ variants) valid = rw (variant_back key v (All-head (λ (w : VariantCount). IsName w.name) v variants valid), each_back key variants (All-tail (λ (w : VariantCount). IsName w.name) v variants valid)) refl

variants_back : (key : Field) (variants : List VariantCount) → AreRising (variant_names variants) → IsListOf 100 (λ v. IsName v.name) variants → members 100 variant_count key (variants_data (map pair variants)) ≡ Ok variants
unfolding members variants_data in_order
variants_back key variants rising valid =
    let ordered : with_counts (map pair variants) no_members ≡ in_order variants = counts_in_order [] variants rising in
    let few : ltb 100 (length variants) ≡ false = le-ltb _ _ valid.0 in
    rw (ordered, members_len-in_order variants, few) (each_back key variants valid.1)

-- ---- hours

hour_is_read : (key : Field) (n : ℕ) → n ≤ 70389502 → hour key (string (hour_text n)) ≡ Ok n
unfolding hour hour_of instant_of
hour_is_read key n most =
    let whole : n * 3600000000000 / 3600000000000 ≡ n = omega arith in
    let within : nat_lt n 70389528 ≡ true = grind (arith, nat_tests, most) in
    rw (any_text_back key (hour_text n), hour_back n most, whole, within) refl

-- ---- entries

entry_back : (environment : List ℕ) (e : MetricEntry) → IsReadable e → entry_of e.app e.feature e.hour (counted_data (counted environment e)) ≡ Ok e
unfolding entry_of counted_data variants_data at
entry_back environment e valid =
    let value = counted_data (counted environment e) in
    let a = defaulted_back 0 any_whole field.Yes value (count e.yes) e.yes refl (any_whole_back field.Yes e.yes) in
    let b = defaulted_back 0 any_whole field.No value (count e.no) e.no refl (any_whole_back field.No e.no) in
    let c = defaulted_back [] (members 100 variant_count) field.Variants value (variants_data (map pair e.variants)) e.variants refl (variants_back field.Variants e.variants valid.variants.rising valid.variants.names) in
    rw (a, b, c) refl

item_back : (environment : List ℕ) (e : MetricEntry) → IsReadable e → bulk_entry_of (counted_data (counted environment e)) ≡ Ok e
unfolding bulk_entry_of counted_data at
item_back environment e valid =
    let value = counted_data (counted environment e) in
    let a = required_back name field.FeatureName value (string e.feature) e.feature refl (name_back field.FeatureName e.feature valid.feature) in
    let b = required_back name field.AppName value (string e.app) e.app refl (name_back field.AppName e.app valid.app) in
    let c = required_back hour field.Timestamp value (string (hour_text e.hour)) e.hour refl (hour_is_read field.Timestamp e.hour valid.hour) in
    rw (a, b, c) (entry_back environment e valid)

is_one : (environment : List ℕ) (e : MetricEntry) → is_object (counted_data (counted environment e)) ≡ true
unfolding counted_data
is_one environment e = refl

object_back : (environment : List ℕ) (key : Field) (e : MetricEntry) → IsReadable e → object_of bulk_entry_of key (counted_data (counted environment e)) ≡ Ok e
unfolding object_of
object_back environment key e valid = rw (is_one environment e) (item_back environment e valid)

map-map : {A B C : Type 0} (f : A → B) (g : B → C) (xs : List A) → map g (map f xs) ≡ map (λ x. g (f x)) xs
map-map f g [] = refl
map-map f g (x ∷ xs) = ap (λ ys. g (f x) ∷ ys) (map-map f g xs)

pub report_back : (environment : List ℕ) (entries : List MetricEntry) → AreReadable entries → bulk_of (bulk_data (map (counted environment) entries)) ≡ Ok (record { entries = entries })
unfolding bulk_of bulk_of_items at
report_back environment entries valid =
    let value = bulk_data (map (counted environment) entries) in
    let same : items_of (map counted_data (map (counted environment) entries)) ≡ items_of (map (λ e. counted_data (counted environment e)) entries) = ap items_of (map-map (counted environment) counted_data entries) in
    let back = list_back is_object always (object_of bulk_entry_of) (λ e. counted_data (counted environment e)) IsReadable 10000 field.Metrics entries (is_one environment) (λ e. refl) (object_back environment field.Metrics) valid in
    let a = required_back (objects 10000 bulk_entry_of) field.Metrics value (array (items_of (map counted_data (map (counted environment) entries)))) entries refl (rw same back) in
    rw a refl

pub text_back : (environment : List ℕ) (entries : List MetricEntry) → AreReadable entries → IsReadAs (bulk_data (map (counted environment) entries)) entries
unfolding bulk_report_of object_in bulk_of_items
text_back environment entries valid bytes spelled =
    rw (spelled, report_back environment entries valid) refl
