-- The length of a bulk report's text.
use Rattle.std.proofs.Common.{◌≡◌, ℕ, zero, suc, ◌+◌, ◌<◌, ◌≤◌, inl, inr, Bool, true, false, cond, ◌||◌, nat_eq, List, [], ◌∷◌, ◌++◌, map, length, get_or, take, refl, sym, ap, ◌∙◌, arith}
use Rattle.std.proofs.lemmas.Bool.{cases_lt}
use Rattle.std.proofs.lemmas.Bool.Decides.{nat_tests}
use Rattle.std.specs.Prelude.{nat_le, if◌then◌else◌, ◌==◌}
use Rattle.std.proofs.lemmas.List.{take_more, length-append, map-append, length-map, length-take, length-take-le}
use Rattle.serde_json.proofs.OnLiterals.{serde_json_on_literals}
use Rattle.serde_json.specs.Data.{Data, Items, no_items, item}
use Rattle.serde_json.specs.View.{items_of}
use Rattle.serde_json.specs.Written.{compact_text, items_text, comma_if}
use Rattle.unl_metrics.specs.Book.{Book, MetricKey, Tally}
use Rattle.unl_metrics.specs.Bulk.{counted_data, bulk_of_items, bulk_length, greatest, room_for}

-- ---- what one more item adds

-- The number of separator bytes before an item: 1, or 0 for the first item.
abbrev pub comma_len : Bool → ℕ
comma_len later = cond later 1 0

comma_is : (later : Bool) → length (comma_if later) ≡ comma_len later
comma_is true = refl
comma_is false = refl

has_items : List Data → Bool
has_items [] = false
has_items (d ∷ ds) = true

item_is : (later : Bool) (d : Data) (rest : Items) → length (items_text later (item d rest)) ≡ comma_len later + length (compact_text d) + length (items_text true rest)
item_is later d rest = omega (arith, length-append (comma_if later) (compact_text d ++ items_text true rest), length-append (compact_text d) (items_text true rest), comma_is later)

item_more : (later : Bool) (ds : List Data) (d : Data) → length (items_text later (items_of (ds ++ d ∷ []))) ≡ length (items_text later (items_of ds)) + length (compact_text d) + comma_len (later || has_items ds)
unfolding has_items
item_more true [] d = omega (arith, item_is true d no_items)
item_more false [] d = omega (arith, item_is false d no_items)
item_more true (e ∷ ds) d = omega (arith, item_is true e (items_of (ds ++ d ∷ [])), item_is true e (items_of ds), item_more true ds d)
item_more false (e ∷ ds) d = omega (arith, item_is false e (items_of (ds ++ d ∷ [])), item_is false e (items_of ds), item_more true ds d)

some_text : (later : Bool) (ds : List Data) → 1 ≤ length (items_text later (items_of ds))
some_text later [] = omega arith
some_text later (d ∷ ds) = omega (arith, item_is later d (items_of ds), some_text true ds)

items_grow : (later : Bool) (ds es : List Data) → length (items_text later (items_of ds)) ≤ length (items_text later (items_of (ds ++ es)))
items_grow later [] es = omega (arith, some_text later es)
items_grow later (d ∷ ds) es = omega (arith, item_is later d (items_of ds), item_is later d (items_of (ds ++ es)), items_grow true ds es)

-- ---- the whole text

frame : (items : Items) → length (compact_text (bulk_of_items items)) ≡ 31 + length (items_text false items)
unfolding bulk_of_items serde_json_on_literals
frame items = omega (arith, length-append (items_text false items) (125 ∷ []))

pub empty_length : bulk_length [] ≡ 32
unfolding bulk_length
empty_length = frame no_items

len_before : (book : Book) → comma_len (has_items (map counted_data book)) ≡ cond (nat_eq (length book) 0) 0 1
unfolding has_items
len_before [] = refl
len_before (e ∷ book) = grind (arith, nat_tests)

pub one_more : (book : Book) (e : MetricKey × Tally) → bulk_length (book ++ e ∷ []) ≡ bulk_length book + length (compact_text (counted_data e)) + cond (nat_eq (length book) 0) 0 1
unfolding bulk_length
one_more book e =
    let parts : map counted_data (book ++ e ∷ []) ≡ map counted_data book ++ counted_data e ∷ [] = map-append counted_data book (e ∷ []) in
    rw parts (omega (arith, frame (items_of (map counted_data book ++ counted_data e ∷ [])), frame (items_of (map counted_data book)), item_more false (map counted_data book) (counted_data e), len_before book))

pub grows : (book more : Book) → bulk_length book ≤ bulk_length (book ++ more)
unfolding bulk_length
grows book more =
    rw (map-append counted_data book more) (omega (arith, frame (items_of (map counted_data book ++ map counted_data more)), frame (items_of (map counted_data book)), items_grow false (map counted_data book) (map counted_data more)))

-- ---- the longest prefix that passes

greatest_is : (passes : ℕ → Bool) (n i : ℕ) → i ≤ n → passes i ≡ true → ((m : ℕ) → i < m → m ≤ n → passes m ≡ false) → greatest passes n ≡ i
unfolding greatest
greatest_is passes zero i le here others = omega arith
greatest_is passes (suc n) i le here others = elim (cases_lt i (suc n)) [
  | inl lt ↦ rw (others (suc n) (omega arith) (omega arith)) (greatest_is passes n i (omega arith) here (λ m low high. others m low (omega arith)))
  | inr ge ↦ let same : suc n ≡ i = omega arith in rw (same, here) refl
]

take_prefix : {X : Type 0} (xs : List X) (i m : ℕ) → i ≤ m → (more : List X) × (take m xs ≡ take i xs ++ more)
take_prefix xs zero m le = (take m xs, refl)
take_prefix xs (suc i) zero le = absurd (omega arith)
take_prefix [] (suc i) (suc m) le = ([], refl)
take_prefix (x ∷ xs) (suc i) (suc m) le = let rest = take_prefix xs i m (omega arith) in (rest.0, ap (λ (ys : List _). x ∷ ys) rest.1)

pub room_is : (book : Book) (i : ℕ) → i ≤ length book → bulk_length (take i book) ≤ 1048576 → (i < length book → 1048576 < bulk_length (take (i + 1) book)) → room_for book ≡ i
unfolding room_for
room_is book i le fits full = greatest_is (λ n. nat_le (bulk_length (take n book)) 1048576) (length book) i le (grind (arith, nat_tests, fits))
    (λ m low high. let prefix = take_prefix book (i + 1) m (omega arith) in
    let longer : bulk_length (take (i + 1) book) ≤ bulk_length (take m book) = rw prefix.1 (grows (take (i + 1) book) prefix.0) in
    let past = full (omega arith) in
    grind (arith, nat_tests, longer, past))

pub longer_is : (rows : Book) (i n before comma values : ℕ) (e : MetricKey × Tally) → i < length rows → e ≡ get_or rows i e → before ≡ bulk_length (take i rows) → n ≡ length (compact_text (counted_data e)) → values ≡ i → comma ≡ (if values == 0 then 0 else 1) → before + n + comma ≡ bulk_length (take (i + 1) rows)
longer_is rows i n before comma values e lt is so_far text all mark =
    let prefix : take (i + 1) rows ≡ take i rows ++ e ∷ [] = take_more rows i e lt ∙ ap (λ x. take i rows ++ x ∷ []) (sym is) in
    let len : length (take i rows) ≡ i = length-take-le i rows (omega arith) in
    let comma_is_same : comma ≡ cond (nat_eq (length (take i rows)) 0) 0 1 = rw (len, ← all) mark in
    rw prefix (rw (so_far, text, comma_is_same) (sym (one_more (take i rows) e)))

-- If a list has the same images as the first i items of another list, it is not longer than the other list.
pub within : {A B C : Type 0} (f : A → C) (g : B → C) (xs : List A) (ys : List B) (i n : ℕ) → map f xs ≡ map g (take i ys) → length xs ≡ n → n ≤ length ys
within f g xs ys i n same all =
    let len : length xs ≡ length (take i ys) = sym (length-map xs f) ∙ ap length same ∙ length-map (take i ys) g in
    omega (arith, len, length-take i ys)

-- ---- what `room_for` is

greatest_passes : (passes : ℕ → Bool) (n : ℕ) → passes 0 ≡ true → passes (greatest passes n) ≡ true
unfolding greatest
greatest_passes passes zero none = none
greatest_passes passes (suc n) none = elim (passes (suc n)) as (λ b. passes (suc n) ≡ b → passes (cond b (suc n) (greatest passes n)) ≡ true) [
  | true ↦ λ it. it
  | false ↦ λ it. greatest_passes passes n none
] refl

none_greater : (passes : ℕ → Bool) (n m : ℕ) → greatest passes n < m → m ≤ n → passes m ≡ false
unfolding greatest
none_greater passes zero m above le = absurd (omega arith)
none_greater passes (suc n) m above le = elim (passes (suc n)) as (λ b. passes (suc n) ≡ b → cond b (suc n) (greatest passes n) < m → passes m ≡ false) [
  | true ↦ λ it past. absurd (omega arith)
  | false ↦ λ it past. elim (cases_lt m (suc n)) [
    | inl lt ↦ none_greater passes n m past (omega arith)
    | inr ge ↦ let same : m ≡ suc n = omega arith in rw same it
  ]
] refl above

fits_in : (n most : ℕ) → nat_le n most ≡ true → n ≤ most
fits_in n most e = grind (arith, nat_tests, e)

past_it : (n most : ℕ) → nat_le n most ≡ false → most < n
past_it n most e = grind (arith, nat_tests, e)

pub room_fits : (book : Book) → bulk_length (take (room_for book) book) ≤ 1048576
unfolding room_for
room_fits book = fits_in (bulk_length (take (room_for book) book)) 1048576 (greatest_passes (λ n. nat_le (bulk_length (take n book)) 1048576) (length book) (rw empty_length refl))

pub no_more_room : (book : Book) (n : ℕ) → room_for book < n → n ≤ length book → 1048576 < bulk_length (take n book)
unfolding room_for
no_more_room book n above le = past_it (bulk_length (take n book)) 1048576 (none_greater (λ m. nat_le (bulk_length (take m book)) 1048576) (length book) n above le)
