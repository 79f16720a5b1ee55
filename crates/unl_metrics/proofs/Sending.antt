-- When a bulk report is sent from a book, and how the keys that are sent are the entries of a report.
use Rattle.std.proofs.Common.{◌≡◌, ◌↔◌, ℕ, ◌<◌, true, false, cond, T, List, [], ◌∷◌, map, take, length, refl, sym, subst, ap, ◌∙◌, arith}
use Rattle.std.specs.Cmp.Lexicographic.{bytes_decides}
use Rattle.std.proofs.lemmas.List.Elements.{All-cons, All-head, All-tail, All-nil}
use Rattle.std.specs.Prelude.{All, Some, None, is_some}
use Rattle.serde_json.specs.Data.{Data}
use Rattle.unl_metrics.specs.Book.{Book, Variants, is_of, pair, counted, counted_in, IsCounted}
use Rattle.unl_metrics.specs.Bulk.{bulk, bulk_data, bulk_report, room_for}
use Rattle.unl_metrics.specs.Readable.{entries_at}

pub each_in : (environment : List ℕ) (book : Book) → All IsCounted book → All IsCounted (counted_in environment book)
each_in environment [] each = All-nil IsCounted
each_in environment (e ∷ book) each = elim (is_of environment e.0) as (λ b. All IsCounted (cond b (e ∷ counted_in environment book) (counted_in environment book))) [
  | true ↦ All-cons IsCounted e (counted_in environment book) (All-head IsCounted e book each) (each_in environment book (All-tail IsCounted e book each))
  | false ↦ each_in environment book (All-tail IsCounted e book each)
]

pub nothing_sent : (environment : List ℕ) (book found : Book) → found ≡ counted_in environment book → length found ≡ 0 → None ≡ bulk environment book
unfolding bulk
nothing_sent environment book [] is none = ap bulk_report is
nothing_sent environment book (e ∷ found) is none = absurd (omega arith)

pub something_sent : (environment : List ℕ) (book found : Book) (sent : Data) (count : ℕ) → found ≡ counted_in environment book → 0 < length found → sent ≡ bulk_data (take (room_for found) found) → count ≡ room_for found → Some (sent, count) ≡ bulk environment book
unfolding bulk
something_sent environment book [] sent count is some written all = absurd (omega arith)
something_sent environment book (e ∷ found) sent count is some written all = (λ i. Some (written i, all i)) ∙ ap bulk_report is

-- ---- nothing is sent exactly if there is no key

none_of : (found : Book) → bulk_report found ≡ None → found ≡ []
none_of [] e = refl
none_of (f ∷ found) e = absurd (subst T (ap is_some e) tt)

pub none_sent : (environment : List ℕ) (book : Book) → (bulk environment book ≡ None) ↔ (counted_in environment book ≡ [])
unfolding bulk
none_sent environment book = (none_of (counted_in environment book), ap bulk_report)

-- ---- what is sent, as the entries of a report

variants_again : (variants : Variants) → map pair (map (λ v. record { name = v.0; count = v.1 }) variants) ≡ variants
variants_again [] = refl
variants_again (v ∷ variants) = ap (λ (vs : Variants). v ∷ vs) (variants_again variants)

pub entries_again : (environment : List ℕ) (book : Book) → map (counted environment) (entries_at (counted_in environment book)) ≡ counted_in environment book
entries_again environment [] = refl
entries_again environment (e ∷ book) = elim (is_of environment e.0) as (λ b. is_of environment e.0 ≡ b → map (counted environment) (entries_at (cond b (e ∷ counted_in environment book) (counted_in environment book))) ≡ cond b (e ∷ counted_in environment book) (counted_in environment book)) [
  | true ↦ λ here. (λ i. (record { environment = sym ((bytes_decides e.0.environment environment).0 here) i; app = e.0.app; feature = e.0.feature; hour = e.0.hour }, record { yes = e.1.yes; no = e.1.no; variants = variants_again e.1.variants i }) ∷ entries_again environment book i)
  | false ↦ λ here. entries_again environment book
] refl
