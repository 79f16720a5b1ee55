-- Chunks of a list sorted by key: the chunk where a key is, or would be inserted.
use Rattle.std.proofs.Common.{◌≡◌, ◌<◌, ◌≤◌, ◌+◌, ◌-◌, ℕ, zero, suc, Bool, true, false, Option, Some, None, List, [], ◌∷◌, ◌++◌, length, map, take, drop, get_or, Less, inl, inr, refl, sym, ap, subst, ◌∙◌, append_assoc, arith}
use Rattle.std.specs.Prelude.{filter, find, remove, slice_get}
use Rattle.std.specs.List.{AllByRecursion as Every, prefix_len}
use Rattle.std.specs.List.Sorted.{IsPartitionedBy}
use Rattle.std.specs.Option.{option_map_or, option_or}
use Rattle.std.specs.Ordering.{is_eq, is_lt}
use Rattle.std.specs.Str.{bytes_eq}
use Rattle.std.proofs.lemmas.Bool.{cases_Bool}
use Rattle.std.proofs.lemmas.Cmp.{nat_list_cmp_total}
use Rattle.std.proofs.lemmas.Grind.{flat_map-append}
use Rattle.std.proofs.lemmas.List.{append-nil, drop_more, take_more}
use Rattle.std.proofs.lemmas.List.Elements.{All-append, All-drop, All-take, filter-append, recursion_from_All}
use Rattle.std.proofs.lemmas.List.Folds.{find-append}
use Rattle.std.proofs.lemmas.Map.Text.{is_eq-slice_cmp}
use Rattle.std.proofs.lemmas.Option.{slice_get_within}
use Rattle.unl_delta.specs.Keyed.{above, below, ends_before, is_before, put, without}
use Rattle.unl_delta.specs.Valid.{NeverFall}
use Rattle.unl_delta.proofs.Every.{every_append, every_weaker, filter_all, filter_none}
use Rattle.unl_delta.proofs.Numbers.{never_fall_lower}
use Rattle.unl_delta.proofs.InPlace.{all_above, greater, none_below, none_found}
use Rattle.unl_delta.proofs.Order.{cmp, Rises, less_back, less_from_test, rises_from_rising, rising_again}
use Rattle.unl_documents.specs.Parameters.{AreRising}
use Rattle.unl_documents.specs.Chunks.{joined, NoneIsEmpty}

-- ---- a list in two parts whose keys ascend

every_prefix : {T : Type 0} (P : T → Type 0) (xs ys : List T) → Every P (xs ++ ys) → Every P xs
every_prefix P [] ys h = tt
every_prefix P (x ∷ xs) ys h = (h.0, every_prefix P xs ys h.1)

every_back : {T : Type 0} (P : T → Type 0) (xs ys : List T) → Every P (xs ++ ys) → Every P ys
every_back P [] ys h = h
every_back P (x ∷ xs) ys h = every_back P xs ys h.1

rises_prefix : {T : Type 0} (key : T → List ℕ) (xs ys : List T) → Rises key (xs ++ ys) → Rises key xs
unfolding Rises
rises_prefix key [] ys h = tt
rises_prefix {T} key (x ∷ xs) ys h = (every_prefix (λ (y : T). cmp (key x) (key y) ≡ Less) xs ys h.0, rises_prefix key xs ys h.1)

rises_back : {T : Type 0} (key : T → List ℕ) (xs ys : List T) → Rises key (xs ++ ys) → Rises key ys
unfolding Rises
rises_back key [] ys h = h
rises_back key (x ∷ xs) ys h = rises_back key xs ys h.1

-- ---- chunks that end before a key (the last item's key comes before it), and chunks that don't

-- one more item at the front of a list that isn't empty doesn't change whether the list ends before the key
ends_alike : {T : Type 0} (key : T → List ℕ) (k : List ℕ) (x y : T) (ys : List T) → ends_before key k (x ∷ y ∷ ys) ≡ ends_before key k (y ∷ ys)
ends_alike {T} key k x y ys =
    let more : suc (suc (length ys)) - 1 ≡ suc (length ys) = omega arith in
    let one : suc (length ys) - 1 ≡ length ys = omega arith in
    ap (λ (i : ℕ). option_map_or (λ (z : T). is_before (key z) k) (slice_get (x ∷ y ∷ ys) i) false) more
    ∙ sym (ap (λ (i : ℕ). option_map_or (λ (z : T). is_before (key z) k) (slice_get (y ∷ ys) i) false) one)

all_before : {T : Type 0} (key : T → List ℕ) (k : List ℕ) (chunk : List T) → Rises key chunk → ends_before key k chunk ≡ true → Every (λ y. cmp (key y) k ≡ Less) chunk
unfolding Rises
all_before key k [] h ends = tt
all_before key k (x ∷ []) h ends = (less_from_test _ ends, tt)
all_before {T} key k (x ∷ y ∷ ys) h ends =
    let others : Every (λ (z : T). cmp (key z) k ≡ Less) (y ∷ ys) = all_before key k (y ∷ ys) h.1 (sym (ends_alike key k x y ys) ∙ ends) in
    (nat_list_cmp_total.trans (key x) (key y) k h.0.0 others.0, others)

-- all items after a chunk that doesn't end before the key come after the key
all_behind : {T : Type 0} (key : T → List ℕ) (k : List ℕ) (chunk more : List T) → Rises key (chunk ++ more) → 1 ≤ length chunk → ends_before key k chunk ≡ false → Every (λ z. cmp k (key z) ≡ Less) more
unfolding Rises
all_behind key k [] more h full ends = absurd (omega (arith, full))
all_behind key k (x ∷ []) more h full ends = greater key k x more ends h.0
all_behind key k (x ∷ y ∷ ys) more h full ends = all_behind key k (y ∷ ys) more h.1 (omega arith) (sym (ends_alike key k x y ys) ∙ ends)

-- items that all come after the key don't end before it
not_ended : {T : Type 0} (key : T → List ℕ) (k : List ℕ) (chunk : List T) → Every (λ y. cmp k (key y) ≡ Less) chunk → ends_before key k chunk ≡ true → ⊥
not_ended key k [] h ends = absurd cc
not_ended key k (x ∷ []) h ends = let less : is_before (key x) k ≡ false = ap is_lt (less_back k (key x) h.0) in cc
not_ended key k (x ∷ y ∷ ys) h ends = not_ended key k (y ∷ ys) h.1 (sym (ends_alike key k x y ys) ∙ ends)

none_ends : {T : Type 0} (key : T → List ℕ) (k : List ℕ) (chunks : List (List T)) (i : ℕ) (d : List T) → Every (λ chunk. 1 ≤ length chunk) chunks → Every (λ y. cmp k (key y) ≡ Less) (joined chunks) → i < length chunks → ends_before key k (get_or chunks i d) ≡ true → ⊥
none_ends key k [] i d full h inside ends = absurd (omega (arith, inside))
none_ends {T} key k (chunk ∷ chunks) zero d full h inside ends = not_ended key k chunk (every_prefix (λ (y : T). cmp k (key y) ≡ Less) chunk (joined chunks) h) ends
none_ends {T} key k (chunk ∷ chunks) (suc i) d full h inside ends = none_ends key k chunks i d full.1 (every_back (λ (y : T). cmp k (key y) ≡ Less) chunk (joined chunks) h) (omega (arith, inside)) ends

-- the chunks that end before the key come first
stops : {T : Type 0} (key : T → List ℕ) (k : List ℕ) (chunks : List (List T)) → Every (λ chunk. 1 ≤ length chunk) chunks → Rises key (joined chunks) → IsPartitionedBy (ends_before key k) chunks
stops key k [] full h i j d le lt before = absurd (omega arith)
stops key k (chunk ∷ chunks) full h zero zero d le lt before = before
stops {T} key k (chunk ∷ chunks) full h zero (suc j) d le lt before =
    elim (cases_Bool (ends_before key k chunk)) [
      | inl ends ↦ ends
      | inr not ↦ absurd (none_ends key k chunks j d full.1 (all_behind key k chunk (joined chunks) h full.0 not) (omega arith) before)
    ]
stops key k (chunk ∷ chunks) full h (suc i) zero d le lt before = absurd (omega arith)
stops key k (chunk ∷ chunks) full h (suc i) (suc j) d le lt before = stops key k chunks full.1 (rises_back key chunk (joined chunks) h) i j d (omega arith) (omega arith) before

-- ---- the chunk of a key

-- all items before the chunk come before the key, and all items after the chunk come after the key
pub record Around {T : Type 0} (key : T → List ℕ) (k : List ℕ) (chunks : List (List T)) (place : ℕ) : Type 0 where
  pub low : Every (λ y. cmp (key y) k ≡ Less) (joined (take place chunks))
  pub high : Every (λ y. cmp k (key y) ≡ Less) (joined (drop (suc place) chunks))

pub around : {T : Type 0} (key : T → List ℕ) (k : List ℕ) (chunks : List (List T)) (place : ℕ) → Every (λ chunk. 1 ≤ length chunk) chunks → Rises key (joined chunks) → place ≡ prefix_len (ends_before key k) chunks → Around key k chunks place
around key k [] zero full h is = record { low = tt; high = tt }
around key k [] (suc place) full h is = absurd (omega (arith, is))
around {T} key k (chunk ∷ chunks) zero full h is =
    elim (cases_Bool (ends_before key k chunk)) [
      | inl ends ↦
          let count : prefix_len (ends_before key k) (chunk ∷ chunks) ≡ 1 + prefix_len (ends_before key k) chunks = rw ends refl in
          absurd (omega (arith, is, count))
      | inr not ↦ record { low = tt; high = all_behind key k chunk (joined chunks) h full.0 not }
    ]
around {T} key k (chunk ∷ chunks) (suc place) full h is =
    elim (cases_Bool (ends_before key k chunk)) [
      | inl ends ↦
          let count : prefix_len (ends_before key k) (chunk ∷ chunks) ≡ 1 + prefix_len (ends_before key k) chunks = rw ends refl in
          let rest : Around key k chunks place = around key k chunks place full.1 (rises_back key chunk (joined chunks) h) (omega (arith, is, count)) in
          record {
            low = every_append (λ (y : T). cmp (key y) k ≡ Less) chunk (joined (take place chunks)) (all_before key k chunk (rises_prefix key chunk (joined chunks) h) ends) rest.low;
            high = rest.high;
          }
      | inr not ↦
          let count : prefix_len (ends_before key k) (chunk ∷ chunks) ≡ 0 = rw not refl in
          absurd (omega (arith, is, count))
    ]

-- a list splits into the chunks before a position, the chunk there, and the chunks after it
parted : {T : Type 0} (chunks : List (List T)) (place : ℕ) (chunk : List T) → slice_get chunks place ≡ Some chunk → joined chunks ≡ joined (take place chunks) ++ (chunk ++ joined (drop (suc place) chunks))
parted [] place chunk is = absurd cc
parted {T} (first ∷ chunks) zero chunk is =
    let same : first ≡ chunk = cc in
    ap (λ (r : List T). r ++ joined chunks) same
parted {T} (first ∷ chunks) (suc place) chunk is =
    ap (λ (xs : List T). first ++ xs) (parted chunks place chunk is) ∙ sym (append_assoc first (joined (take place chunks)) (chunk ++ joined (drop (suc place) chunks)))

take_past : {A : Type 0} (xs : List A) (i : ℕ) → slice_get xs i ≡ None → take i xs ≡ xs
take_past [] zero none = refl
take_past [] (suc i) none = refl
take_past (x ∷ xs) zero none = absurd cc
take_past {A} (x ∷ xs) (suc i) none = ap (λ (ys : List A). x ∷ ys) (take_past xs i none)

-- ---- insertion, removal and lookup between items that come before the key and items that come after it

all_low : {T : Type 0} (key : T → List ℕ) (k : List ℕ) (xs : List T) → Every (λ y. cmp (key y) k ≡ Less) xs → below key k xs ≡ xs
unfolding below
all_low {T} key k xs h =
    filter_all (λ y. is_before (key y) k) xs (every_weaker (λ (y : T). cmp (key y) k ≡ Less) (λ (y : T). is_before (key y) k ≡ true) xs (λ y less. ap is_lt less) h)

none_high : {T : Type 0} (key : T → List ℕ) (k : List ℕ) (xs : List T) → Every (λ y. cmp (key y) k ≡ Less) xs → above key k xs ≡ []
unfolding above
none_high {T} key k xs h =
    filter_none (λ y. is_before k (key y)) xs (every_weaker (λ (y : T). cmp (key y) k ≡ Less) (λ (y : T). is_before k (key y) ≡ false) xs (λ y less. ap is_lt (less_back (key y) k less)) h)

none_same : {T : Type 0} (key : T → List ℕ) (k : List ℕ) (xs : List T) → Every (λ y. cmp (key y) k ≡ Less) xs → find (λ y. bytes_eq (key y) k) xs ≡ None
none_same key k [] h = refl
none_same key k (y ∷ ys) h =
    let apart : bytes_eq (key y) k ≡ false = sym (is_eq-slice_cmp (key y) k) ∙ ap is_eq h.0 in
    rw apart (none_same key k ys h.1)

below_parts : {T : Type 0} (key : T → List ℕ) (k : List ℕ) (xs ys zs : List T) → Every (λ y. cmp (key y) k ≡ Less) xs → Every (λ y. cmp k (key y) ≡ Less) zs → below key k (xs ++ (ys ++ zs)) ≡ xs ++ below key k ys
unfolding below
below_parts {T} key k xs ys zs low high =
    let test : T → Bool = λ y. is_before (key y) k in
    filter-append test xs (ys ++ zs) ∙ ap (λ (us : List T). us ++ filter test (ys ++ zs)) (all_low key k xs low)
    ∙ ap (λ (us : List T). xs ++ us) (filter-append test ys zs ∙ ap (λ (us : List T). filter test ys ++ us) (none_below key k zs high) ∙ append-nil (filter test ys))

above_parts : {T : Type 0} (key : T → List ℕ) (k : List ℕ) (xs ys zs : List T) → Every (λ y. cmp (key y) k ≡ Less) xs → Every (λ y. cmp k (key y) ≡ Less) zs → above key k (xs ++ (ys ++ zs)) ≡ above key k ys ++ zs
unfolding above
above_parts {T} key k xs ys zs low high =
    let test : T → Bool = λ y. is_before k (key y) in
    filter-append test xs (ys ++ zs) ∙ ap (λ (us : List T). us ++ filter test (ys ++ zs)) (none_high key k xs low)
    ∙ filter-append test ys zs ∙ ap (λ (us : List T). filter test ys ++ us) (all_above key k zs high)

put_parts : {T : Type 0} (key : T → List ℕ) (x : T) (xs ys zs : List T) → Every (λ y. cmp (key y) (key x) ≡ Less) xs → Every (λ y. cmp (key x) (key y) ≡ Less) zs → xs ++ (put key x ys ++ zs) ≡ put key x (xs ++ (ys ++ zs))
put_parts {T} key x xs ys zs low high =
    let k : List ℕ = key x in
    rw (below_parts key k xs ys zs low high, above_parts key k xs ys zs low high) (
    ap (λ (us : List T). xs ++ us) (append_assoc (below key k ys) (x ∷ above key k ys) zs) ∙ sym (append_assoc xs (below key k ys) (x ∷ (above key k ys ++ zs)))
    )

without_parts : {T : Type 0} (key : T → List ℕ) (k : List ℕ) (xs ys zs : List T) → Every (λ y. cmp (key y) k ≡ Less) xs → Every (λ y. cmp k (key y) ≡ Less) zs → xs ++ (without key k ys ++ zs) ≡ without key k (xs ++ (ys ++ zs))
without_parts {T} key k xs ys zs low high =
    rw (below_parts key k xs ys zs low high, above_parts key k xs ys zs low high) (
    ap (λ (us : List T). xs ++ us) (append_assoc (below key k ys) (above key k ys) zs) ∙ sym (append_assoc xs (below key k ys) (above key k ys ++ zs))
    )

find_parts : {T : Type 0} (key : T → List ℕ) (k : List ℕ) (xs ys zs : List T) → Every (λ y. cmp (key y) k ≡ Less) xs → Every (λ y. cmp k (key y) ≡ Less) zs → find (λ y. bytes_eq (key y) k) ys ≡ find (λ y. bytes_eq (key y) k) (xs ++ (ys ++ zs))
find_parts {T} key k xs ys zs low high =
    let test : T → Bool = λ y. bytes_eq (key y) k in
    sym (find-append test xs (ys ++ zs) ∙ ap (λ (o : Option T). option_or o (find test (ys ++ zs))) (none_same key k xs low)
    ∙ find-append test ys zs ∙ ap (λ (o : Option T). option_or (find test ys) o) (none_found key k zs high) ∙ or_none (find test ys))
  where
    or_none : (o : Option T) → option_or o None ≡ o
    or_none None = refl
    or_none (Some y) = refl

-- ---- changing the chunk of a key

-- no chunk is empty, stated with `Every`, which is defined by recursion over the list
each_full : {T : Type 0} (chunks : List (List T)) → NoneIsEmpty chunks → Every (λ chunk. 1 ≤ length chunk) chunks
each_full {T} chunks full = recursion_from_All (λ (chunk : List T). 1 ≤ length chunk) chunks full

-- the chunks that end before the key come first
pub chunks_partitioned : {T : Type 0} (key : T → List ℕ) (k : List ℕ) (chunks : List (List T)) → NoneIsEmpty chunks → AreRising (map key (joined chunks)) → IsPartitionedBy (ends_before key k) chunks
chunks_partitioned key k chunks full rising = stops key k chunks (each_full chunks full) (rises_from_rising key (joined chunks) rising)

-- the chunk at a position: its keys ascend, the items before it come before the key, and the items after it come after the key
pub record Held {T : Type 0} (key : T → List ℕ) (k : List ℕ) (chunks : List (List T)) (place : ℕ) (chunk : List T) : Type 0 where
  pub inside : place < length chunks
  pub rising : AreRising (map key chunk)
  pub low : Every (λ y. cmp (key y) k ≡ Less) (joined (take place chunks))
  pub high : Every (λ y. cmp k (key y) ≡ Less) (joined (drop (place + 1) chunks))
  pub parts : joined chunks ≡ joined (take place chunks) ++ (chunk ++ joined (drop (place + 1) chunks))

pub held : {T : Type 0} (key : T → List ℕ) (k : List ℕ) (chunks : List (List T)) (items : List T) (place : ℕ) (chunk : List T) → NoneIsEmpty chunks → joined chunks ≡ items → AreRising (map key items) → place ≡ prefix_len (ends_before key k) chunks → slice_get chunks place ≡ Some chunk
    → Held key k chunks place chunk
held {T} key k chunks items place chunk full same rising is here =
    let all : Rises key (joined chunks) = subst (Rises key) (sym same) (rises_from_rising key items rising) in
    let a : Around key k chunks place = around key k chunks place (each_full chunks full) all is in
    let next : suc place ≡ place + 1 = omega arith in
    let parts : joined chunks ≡ joined (take place chunks) ++ (chunk ++ joined (drop (suc place) chunks)) = parted chunks place chunk here in
    let back : Rises key (chunk ++ joined (drop (suc place) chunks)) = rises_back key (joined (take place chunks)) (chunk ++ joined (drop (suc place) chunks)) (subst (Rises key) parts all) in
    record {
      inside = slice_get_within chunks place chunk here;
      rising = rising_again key chunk (rises_prefix key chunk (joined (drop (suc place) chunks)) back);
      low = a.low;
      high = subst (λ (n : ℕ). Every (λ (y : T). cmp k (key y) ≡ Less) (joined (drop n chunks))) next a.high;
      parts = subst (λ (n : ℕ). joined chunks ≡ joined (take place chunks) ++ (chunk ++ joined (drop n chunks))) next parts;
    }

pub put_in_chunk : {T : Type 0} (key : T → List ℕ) (x : T) (chunks : List (List T)) (items : List T) (place : ℕ) (chunk changed : List T) → Held key (key x) chunks place chunk → joined chunks ≡ items → changed ≡ put key x chunk
    → (joined (take place chunks) ++ changed) ++ joined (drop (place + 1) chunks) ≡ put key x items
put_in_chunk {T} key x chunks items place chunk changed h same is =
    append_assoc (joined (take place chunks)) changed (joined (drop (place + 1) chunks))
    ∙ ap (λ (ys : List T). joined (take place chunks) ++ (ys ++ joined (drop (place + 1) chunks))) is
    ∙ put_parts key x (joined (take place chunks)) chunk (joined (drop (place + 1) chunks)) h.low h.high
    ∙ ap (λ (xs : List T). put key x xs) (sym h.parts ∙ same)

pub without_in_chunk : {T : Type 0} (key : T → List ℕ) (k : List ℕ) (chunks : List (List T)) (items : List T) (place : ℕ) (chunk changed : List T) → Held key k chunks place chunk → joined chunks ≡ items → changed ≡ without key k chunk
    → (joined (take place chunks) ++ changed) ++ joined (drop (place + 1) chunks) ≡ without key k items
without_in_chunk {T} key k chunks items place chunk changed h same is =
    append_assoc (joined (take place chunks)) changed (joined (drop (place + 1) chunks))
    ∙ ap (λ (ys : List T). joined (take place chunks) ++ (ys ++ joined (drop (place + 1) chunks))) is
    ∙ without_parts key k (joined (take place chunks)) chunk (joined (drop (place + 1) chunks)) h.low h.high
    ∙ ap (λ (xs : List T). without key k xs) (sym h.parts ∙ same)

pub find_in_chunk : {T : Type 0} (key : T → List ℕ) (k : List ℕ) (chunks : List (List T)) (items : List T) (place : ℕ) (chunk : List T) → Held key k chunks place chunk → joined chunks ≡ items
    → find (λ y. bytes_eq (key y) k) chunk ≡ find (λ y. bytes_eq (key y) k) items
find_in_chunk {T} key k chunks items place chunk h same =
    find_parts key k (joined (take place chunks)) chunk (joined (drop (place + 1) chunks)) h.low h.high ∙ ap (λ (xs : List T). find (λ (y : T). bytes_eq (key y) k) xs) (sym h.parts ∙ same)

-- the chunks that are left after the chunk at a position is removed
pub record Removed {T : Type 0} (chunks others : List (List T)) (place : ℕ) : Type 0 where
  pub full : NoneIsEmpty others
  pub before : take place others ≡ take place chunks
  pub behind : drop place others ≡ drop (place + 1) chunks

take_removed : {A : Type 0} (xs : List A) (i : ℕ) → take i (remove xs i) ≡ take i xs
take_removed [] zero = refl
take_removed [] (suc i) = refl
take_removed (x ∷ xs) zero = refl
take_removed {A} (x ∷ xs) (suc i) = ap (λ (ys : List A). x ∷ ys) (take_removed xs i)

drop_removed : {A : Type 0} (xs : List A) (i : ℕ) → drop i (remove xs i) ≡ drop (suc i) xs
drop_removed [] zero = refl
drop_removed [] (suc i) = refl
drop_removed (x ∷ xs) zero = refl
drop_removed (x ∷ xs) (suc i) = drop_removed xs i

pub removed_chunk : {T : Type 0} (chunks others : List (List T)) (place : ℕ) → NoneIsEmpty chunks → others ≡ remove chunks place → Removed chunks others place
removed_chunk {T} chunks others place full is =
    let P : List T → Type 0 = λ chunk. 1 ≤ length chunk in
    let next : suc place ≡ place + 1 = omega arith in
    record {
      full = rw is (All-append P (take place chunks) (drop (suc place) chunks) (All-take P place chunks full) (All-drop P (suc place) chunks full));
      before = ap (take place) is ∙ take_removed chunks place;
      behind = ap (drop place) is ∙ drop_removed chunks place ∙ ap (λ (n : ℕ). drop n chunks) next;
    }

-- the changed chunk, put back among the other chunks, gives the changed list
pub put_back : {T : Type 0} (chunks others : List (List T)) (place : ℕ) (changed items : List T) → Removed chunks others place → (joined (take place chunks) ++ changed) ++ joined (drop (place + 1) chunks) ≡ items
    → (joined (take place others) ++ changed) ++ joined (drop place others) ≡ items
put_back {T} chunks others place changed items r is =
    ap (λ (rs : List (List T)). (joined rs ++ changed) ++ joined (drop place others)) r.before
    ∙ ap (λ (rs : List (List T)). (joined (take place chunks) ++ changed) ++ joined rs) r.behind ∙ is

-- ---- all chunks end before the key

-- if the position of the key's chunk is after all chunks, all items come before the key
all_end_before : {T : Type 0} (key : T → List ℕ) (k : List ℕ) (chunks : List (List T)) (items : List T) (place : ℕ) → NoneIsEmpty chunks → joined chunks ≡ items → AreRising (map key items) → place ≡ prefix_len (ends_before key k) chunks → slice_get chunks place ≡ None
    → Every (λ y. cmp (key y) k ≡ Less) items
all_end_before {T} key k chunks items place full same rising is none =
    let a : Around key k chunks place = around key k chunks place (each_full chunks full) (subst (Rises key) (sym same) (rises_from_rising key items rising)) is in
    let low : Every (λ (y : T). cmp (key y) k ≡ Less) (joined chunks) = subst (λ (rs : List (List T)). Every (λ (y : T). cmp (key y) k ≡ Less) (joined rs)) (take_past chunks place none) a.low in
    subst (λ (xs : List T). Every (λ (y : T). cmp (key y) k ≡ Less) xs) same low

pub put_at_end : {T : Type 0} (key : T → List ℕ) (x : T) (chunks : List (List T)) (items : List T) (place : ℕ) → NoneIsEmpty chunks → joined chunks ≡ items → AreRising (map key items) → place ≡ prefix_len (ends_before key (key x)) chunks → slice_get chunks place ≡ None
    → items ++ x ∷ [] ≡ put key x items
put_at_end {T} key x chunks items place full same rising is none =
    let low : Every (λ (y : T). cmp (key y) (key x) ≡ Less) items = all_end_before key (key x) chunks items place full same rising is none in
    rw (all_low key (key x) items low, none_high key (key x) items low) refl

pub without_at_end : {T : Type 0} (key : T → List ℕ) (k : List ℕ) (chunks : List (List T)) (items : List T) (place : ℕ) → NoneIsEmpty chunks → joined chunks ≡ items → AreRising (map key items) → place ≡ prefix_len (ends_before key k) chunks → slice_get chunks place ≡ None
    → items ≡ without key k items
without_at_end {T} key k chunks items place full same rising is none =
    let low : Every (λ (y : T). cmp (key y) k ≡ Less) items = all_end_before key k chunks items place full same rising is none in
    rw (all_low key k items low, none_high key k items low) (sym (append-nil items))

pub find_at_end : {T : Type 0} (key : T → List ℕ) (k : List ℕ) (chunks : List (List T)) (items : List T) (place : ℕ) → NoneIsEmpty chunks → joined chunks ≡ items → AreRising (map key items) → place ≡ prefix_len (ends_before key k) chunks → slice_get chunks place ≡ None
    → None ≡ find (λ y. bytes_eq (key y) k) items
find_at_end key k chunks items place full same rising is none = sym (none_same key k items (all_end_before key k chunks items place full same rising is none))

-- ---- a filter over chunks

-- a function that distributes over concatenation can be applied chunk by chunk: one step, for the next chunk
pub gathers_next : {T U : Type 0} (f : List T → List U) (prefix : List U) (chunks : List (List T)) (i : ℕ) (here : List T) (so_far next : List U) → ((xs ys : List T) → f (xs ++ ys) ≡ f xs ++ f ys) → i < length chunks → here ≡ get_or chunks i here
    → so_far ≡ prefix ++ f (joined (take i chunks)) → next ≡ so_far ++ f here → next ≡ prefix ++ f (joined (take (i + 1) chunks))
gathers_next {T} {U} f prefix chunks i here so_far next parts inside is before now =
    let taken : take (i + 1) chunks ≡ take i chunks ++ here ∷ [] = take_more chunks i here inside ∙ ap (λ (chunk : List T). take i chunks ++ chunk ∷ []) (sym is) in
    let all : joined (take i chunks ++ here ∷ []) ≡ joined (take i chunks) ++ here = flat_map-append (λ (chunk : List T). chunk) (take i chunks) (here ∷ []) ∙ ap (λ (ys : List T). joined (take i chunks) ++ ys) (append-nil here) in
    now ∙ ap (λ (ys : List U). ys ++ f here) before ∙ append_assoc prefix (f (joined (take i chunks))) (f here)
    ∙ ap (λ (ys : List U). prefix ++ ys) (sym (parts (joined (take i chunks)) here) ∙ ap f (sym (ap (λ (rs : List (List T)). joined rs) taken ∙ all)))

-- ---- numbers that never decrease, chunk by chunk

never_fall_prefix : {T : Type 0} (number : T → ℕ) (low : ℕ) (xs ys : List T) → NeverFall number low (xs ++ ys) → NeverFall number low xs
never_fall_prefix number low [] ys h = tt
never_fall_prefix number low (x ∷ xs) ys h = (h.0, never_fall_prefix number (number x) xs ys h.1)

never_fall_back : {T : Type 0} (number : T → ℕ) (low : ℕ) (xs ys : List T) → NeverFall number low (xs ++ ys) → NeverFall number 0 ys
never_fall_back number low [] ys h = never_fall_lower number low 0 ys (omega arith) h
never_fall_back number low (x ∷ xs) ys h = never_fall_back number (number x) xs ys h.1

-- if the numbers of all items never decrease, nor do those of one chunk
pub never_fall_in : {T : Type 0} (number : T → ℕ) (low : ℕ) (chunks : List (List T)) (i : ℕ) (here : List T) → i < length chunks → here ≡ get_or chunks i here → NeverFall number low (joined chunks) → NeverFall number 0 here
never_fall_in number low [] i here inside is h = absurd (omega (arith, inside))
never_fall_in {T} number low (chunk ∷ chunks) zero here inside is h =
    subst (λ (xs : List T). NeverFall number 0 xs) (sym is) (never_fall_lower number low 0 chunk (omega arith) (never_fall_prefix number low chunk (joined chunks) h))
never_fall_in number low (chunk ∷ chunks) (suc i) here inside is h = never_fall_in number 0 chunks i here (omega (arith, inside)) is (never_fall_back number low chunk (joined chunks) h)

-- ---- the first item that passes a test, chunk by chunk

find_on : {T : Type 0} (p : T → Bool) (chunks : List (List T)) (i : ℕ) (here : List T) → i < length chunks → here ≡ get_or chunks i here
    → find p (joined (drop i chunks)) ≡ option_or (find p here) (find p (joined (drop (i + 1) chunks)))
find_on {T} p chunks i here inside is =
    let parts : drop i chunks ≡ here ∷ drop (i + 1) chunks = drop_more chunks i here inside ∙ ap (λ (chunk : List T). chunk ∷ drop (i + 1) chunks) (sym is) in
    ap (λ (rs : List (List T)). find p (joined rs)) parts ∙ find-append p here (joined (drop (i + 1) chunks))
