-- The loops that read each member of a JSON object compute `each_member`, which reads the members in order, up to the first fault.
use Rattle.std.proofs.Common.{◌≡◌, ℕ, List, [], ◌∷◌, ◌++◌, map, Ok, Err, String, Global, string_bytes, refl, sym, ap, subst, ◌∙◌, append_assoc, nat_cmp, Less, arith}
use Rattle.std.proofs.lemmas.List.{append-nil, map_push}
use Rattle.std.proofs.lemmas.List.Elements.{All-nil}
use Rattle.std.specs.Cmp.Lexicographic.{slice_cmp}
use Rattle.std.specs.List.{AllByRecursion}
use Rattle.std.specs.List.Sorted.{IsStrictlySortedBy}
use Rattle.std.specs.Map.{keys_of}
use Rattle.std.specs.Prelude.{◌≢◌}
use Rattle.std.specs.String.{string_cmp}
use Rattle.serde_json.proofs.Views.{Entry}
use Rattle.serde_json.specs.Data.{Data}
use Rattle.serde_json.specs.View.{view, members_view}
use Rattle.unl_documents.specs.declared.fault.BadDocument.{BadDocument}
use Rattle.unl_documents.specs.declared.fault.BadDocument.TheVariants.{Memory}
use Rattle.unl_documents.specs.Parameters.{AreRising}
use Rattle.unl_documents.specs.Reading.{Reading, ◌>>=◌}
use Rattle.unl_metrics.specs.declared.report.VariantCount.{VariantCount}
use Rattle.unl_metrics.specs.declared.report.Report.{Report}
use Rattle.unl_metrics.specs.Readable.{HasValidName, AreVariants, AreReadable}
use Rattle.unl_metrics.specs.Reports.{each_member, IsReport}

-- The items already read, followed by the items of a reading, or the fault of the reading.
abbrev pub with_prefix : {T : Type 0} → List T → Reading (List T) → Reading (List T)
with_prefix prefix reading = reading >>= λ others. Ok (prefix ++ others)

regroup : {T : Type 0} (prefix : List T) (first : T) (reading : Reading (List T)) → with_prefix prefix (reading >>= λ others. Ok (first ∷ others)) ≡ with_prefix (prefix ++ first ∷ []) reading
regroup prefix first (Ok others) = ap Ok (sym (append_assoc prefix (first ∷ []) others))
regroup prefix first (Err e) = refl

pub begins : {T : Type 0} (reading : Reading (List T)) → with_prefix [] reading ≡ reading
begins (Ok others) = refl
begins (Err e) = refl

pub goes_on : {T : Type 0} (kind : List ℕ → Data → Reading T) (prefix : List T) (e : Entry) (left : List Entry) (first : T) (total : Reading (List T)) → kind (string_bytes e.0) (view e.1) ≡ Ok first
    → with_prefix prefix (each_member kind (members_view (e ∷ left))) ≡ total → with_prefix (prefix ++ first ∷ []) (each_member kind (members_view left)) ≡ total
unfolding each_member
goes_on kind prefix e left first total here so_far =
    let one : with_prefix prefix (each_member kind (members_view (e ∷ left))) ≡ with_prefix (prefix ++ first ∷ []) (each_member kind (members_view left)) = rw here (regroup prefix first (each_member kind (members_view left))) in
    sym one ∙ so_far

pub ends : {T : Type 0} (fault : BadDocument) (kind : List ℕ → Data → Reading T) (prefix : List T) (e : Entry) (left : List Entry) (total : Reading (List T)) → (fault ≢ Memory → kind (string_bytes e.0) (view e.1) ≡ Err fault)
    → with_prefix prefix (each_member kind (members_view (e ∷ left))) ≡ total → fault ≢ Memory → total ≡ Err fault
unfolding each_member
ends fault kind prefix e left total here so_far known =
    let found : kind (string_bytes e.0) (view e.1) ≡ Err fault = here known in
    let one : with_prefix prefix (each_member kind (members_view (e ∷ left))) ≡ Err fault = rw found refl in
    sym so_far ∙ one

pub is_done : {T : Type 0} (kind : List ℕ → Data → Reading T) (prefix : List T) (total : Reading (List T)) → with_prefix prefix (each_member kind (members_view [])) ≡ total → total ≡ Ok prefix
unfolding each_member
is_done kind prefix total so_far = sym so_far ∙ ap Ok (append-nil prefix)

-- ---- the names of the members ascend

abbrev pub names_of : List Entry → List (List ℕ)
names_of entries = map (λ e. string_bytes e.0) entries

abbrev pub variant_names : List VariantCount → List (List ℕ)
variant_names variants = map (λ v. v.name) variants

all_names : (first : String Global) (es : List Entry) → AllByRecursion (λ k. string_cmp first k ≡ Less) (keys_of es) → AllByRecursion (λ name. slice_cmp nat_cmp (string_bytes first) name ≡ Less) (names_of es)
all_names first [] h = tt
all_names first (e ∷ es) h = (h.0, all_names first es h.1)

pub rising_names : (es : List Entry) → IsStrictlySortedBy string_cmp (keys_of es) → AreRising (names_of es)
unfolding IsStrictlySortedBy
rising_names [] h = tt
rising_names (e ∷ es) h = (all_names e.0 es h.0, rising_names es h.1)

pub rising_goes_on : (variants : List VariantCount) (v : VariantCount) (name : List ℕ) (after : List (List ℕ)) → v.name ≡ name → AreRising (variant_names variants ++ name ∷ after) → AreRising (variant_names (variants ++ v ∷ []) ++ after)
rising_goes_on variants v name after same h =
    let moved : variant_names (variants ++ v ∷ []) ++ after ≡ variant_names variants ++ name ∷ after =
    ap (λ names. names ++ after) (map_push (λ w. w.name) variants v) ∙ append_assoc (variant_names variants) (v.name ∷ []) after ∙ ap (λ n. variant_names variants ++ n ∷ after) same in
    subst AreRising (sym moved) h

pub rising_at_end : (variants : List VariantCount) → AreRising (variant_names variants ++ []) → AreRising (variant_names variants)
rising_at_end variants h = subst AreRising (append-nil (variant_names variants)) h

none_rise : AreRising (variant_names [])
unfolding IsStrictlySortedBy
none_rise = tt

pub no_variants : AreVariants []
no_variants = record { rising = none_rise; names = (omega arith, All-nil HasValidName) }

pub are_entries : (report : Report) → AreReadable report.entries → IsReport report
are_entries report valid = λ k d lt. let e = valid.1 k d lt in record { hour = omega (arith, e.hour); variants = e.variants.rising }
