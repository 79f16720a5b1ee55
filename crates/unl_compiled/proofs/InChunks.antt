-- Lemmas about a list that is split into chunks, for loops that take one chunk at a time.
use Rattle.std.proofs.Common.{◌≡◌, ◌<◌, ◌≤◌, ◌+◌, ℕ, zero, suc, Bool, true, false, List, [], ◌∷◌, ◌++◌, length, map, take, drop, get_or, Less, Option, Some, None, is_lt, inl, inr, refl, sym, ap, subst, ◌∙◌, append_assoc, arith}
use Rattle.std.specs.Prelude.{All, IsSome, option_map, slice_get}
use Rattle.std.specs.List.{AllByRecursion as Every, prefix_len}
use Rattle.std.specs.Str.{bytes_eq}
use Rattle.std.proofs.lemmas.Bool.{cases_Bool}
use Rattle.std.proofs.lemmas.List.{append-nil, drop_more}
use Rattle.std.proofs.lemmas.List.Elements.{All-cons, All-head, All-nil, All-tail, recursion_from_All}
use Rattle.unl_compiled.specs.Places.{places_from}
use Rattle.unl_constraints.proofs.Searching.{is_below}
use Rattle.unl_delta.specs.Keyed.{ends_before}
use Rattle.unl_delta.proofs.Every.{every_weaker}
use Rattle.unl_delta.proofs.Order.{cmp, less_back, rises_from_rising}
use Rattle.unl_delta.proofs.Chunks.{Around, Held, around}
use Rattle.unl_documents.specs.declared.feature.Feature.{Feature}
use Rattle.unl_documents.specs.Parameters.{AreRising}
use Rattle.unl_documents.specs.Chunks.{joined, NoneIsEmpty}

-- The items of the chunks from an index on: those of the chunk there, and those after it.
pub chunk_at : {T : Type 0} (chunks : List (List T)) (i : ℕ) (chunk : List T) → i < length chunks → chunk ≡ get_or chunks i chunk → joined (drop i chunks) ≡ chunk ++ joined (drop (i + 1) chunks)
chunk_at {T} chunks i chunk lt is = ap joined (drop_more chunks i chunk lt ∙ ap (λ (first : List T). first ∷ drop (i + 1) chunks) (sym is))

all_parts : {T : Type 0} (P : T → Type 0) (xs ys : List T) → All P (xs ++ ys) → All P xs × All P ys
all_parts P [] ys h = (All-nil P, h)
all_parts P (x ∷ xs) ys h =
    let rest = all_parts P xs ys (All-tail P x (xs ++ ys) h) in
    (All-cons P x xs (All-head P x (xs ++ ys) h) rest.0, rest.1)

-- If a property holds for each item of the chunks from an index on, it holds for the items of the chunk at the index, and for
-- those of the later chunks.
pub all_at : {T : Type 0} (P : T → Type 0) (chunks : List (List T)) (i : ℕ) (chunk : List T) → i < length chunks → chunk ≡ get_or chunks i chunk → All P (joined (drop i chunks))
    → All P chunk × All P (joined (drop (i + 1) chunks))
all_at P chunks i chunk lt is h = all_parts P chunk (joined (drop (i + 1) chunks)) (rw (chunk_at chunks i chunk lt is) at h)

-- ---- an item at an index

none_past : {T : Type 0} (xs : List T) (place : ℕ) → None ≡ slice_get xs place → place < length xs → ⊥
none_past [] place is lt = omega (arith, lt)
none_past (x ∷ xs) zero is lt = cc
none_past (x ∷ xs) (suc place) is lt = none_past xs place is (omega (arith, lt))

-- A lookup at an index within the list finds an item.
pub represents : {T U : Type 0} (seen : T → U) (found : Option T) (xs : List U) (place : ℕ) → option_map seen found ≡ slice_get xs place → place < length xs → IsSome found
represents seen None xs place is lt = absurd (none_past xs place is lt)
represents seen (Some x) xs place is lt = refl

-- ---- the positions of a project's features

pub places_join : (p : List ℕ) (place : ℕ) (fs gs : List Feature) → places_from place p (fs ++ gs) ≡ places_from place p fs ++ places_from (place + length fs) p gs
places_join p place [] gs = ap (λ (n : ℕ). places_from n p gs) (omega arith)
places_join p place (f ∷ fs) gs =
    let rest : places_from (place + 1) p (fs ++ gs) ≡ places_from (place + 1) p fs ++ places_from (place + suc (length fs)) p gs =
    places_join p (place + 1) fs gs ∙ ap (λ (n : ℕ). places_from (place + 1) p fs ++ places_from n p gs) (omega arith) in
    elim (cases_Bool (bytes_eq f.project p)) [
      | inl is ↦ rw is (ap (λ (ns : List ℕ). place ∷ ns) rest)
      | inr other ↦ rw other rest
    ]

-- The positions of a project's features, after one more chunk.
pub places_more : (p : List ℕ) (chunks : List (List Feature)) (i : ℕ) (chunk : List Feature) (prefix new whole : List ℕ) (place next : ℕ) → i < length chunks → chunk ≡ get_or chunks i chunk
    → new ≡ prefix ++ places_from place p chunk → next ≡ place + length chunk → prefix ++ places_from place p (joined (drop i chunks)) ≡ whole
    → new ++ places_from next p (joined (drop (i + 1) chunks)) ≡ whole
places_more p chunks i chunk prefix new whole place next lt is goes next_place so_far =
    let rest : List Feature = joined (drop (i + 1) chunks) in
    ap (λ (ns : List ℕ). ns ++ places_from next p rest) goes ∙ append_assoc prefix (places_from place p chunk) (places_from next p rest)
    ∙ ap (λ (n : ℕ). prefix ++ (places_from place p chunk ++ places_from n p rest)) next_place
    ∙ sym (ap (λ (ns : List ℕ). prefix ++ ns) (ap (places_from place p) (chunk_at chunks i chunk lt is) ∙ places_join p place chunk rest)) ∙ so_far

-- ---- the position of a key, or where it would be inserted

passing : {T : Type 0} (test : T → Bool) (xs ys : List T) → Every (λ x. test x ≡ true) xs → prefix_len test (xs ++ ys) ≡ length xs + prefix_len test ys
passing test [] ys h = omega arith
passing test (x ∷ xs) ys h =
    let first : test x ≡ true = h.0 in
    let rest : prefix_len test (xs ++ ys) ≡ length xs + prefix_len test ys = passing test xs ys h.1 in
    rw first (omega (arith, rest))

failing : {T : Type 0} (test : T → Bool) (xs ys : List T) → Every (λ y. test y ≡ false) ys → prefix_len test (xs ++ ys) ≡ prefix_len test xs
failing test [] [] h = refl
failing test [] (y ∷ ys) h = let first : test y ≡ false = h.0 in rw first refl
failing test (x ∷ xs) ys h =
    elim (cases_Bool (test x)) [
      | inl is ↦ rw is (ap (λ (n : ℕ). 1 + n) (failing test xs ys h))
      | inr not ↦ rw not refl
    ]

-- The position of a key in the list is the length of the earlier chunks plus its position in its chunk.
pub place_in_chunk : {T : Type 0} (key : T → List ℕ) (k : List ℕ) (chunks : List (List T)) (place : ℕ) (chunk : List T) → Held key k chunks place chunk
    → prefix_len (is_below key k) (joined chunks) ≡ length (joined (take place chunks)) + prefix_len (is_below key k) chunk
place_in_chunk {T} key k chunks place chunk h =
    let low : Every (λ (y : T). is_below key k y ≡ true) (joined (take place chunks)) =
    every_weaker (λ (y : T). cmp (key y) k ≡ Less) (λ (y : T). is_below key k y ≡ true) (joined (take place chunks)) (λ y less. ap is_lt less) h.low in
    let high : Every (λ (y : T). is_below key k y ≡ false) (joined (drop (place + 1) chunks)) =
    every_weaker (λ (y : T). cmp k (key y) ≡ Less) (λ (y : T). is_below key k y ≡ false) (joined (drop (place + 1) chunks)) (λ y less. ap is_lt (less_back k (key y) less)) h.high in
    ap (prefix_len (is_below key k)) h.parts
    ∙ passing (is_below key k) (joined (take place chunks)) (chunk ++ joined (drop (place + 1) chunks)) low
    ∙ ap (λ (n : ℕ). length (joined (take place chunks)) + n) (failing (is_below key k) chunk (joined (drop (place + 1) chunks)) high)

all_taken : {T : Type 0} (xs : List T) (place : ℕ) → None ≡ slice_get xs place → take place xs ≡ xs
all_taken [] zero none = refl
all_taken [] (suc place) none = refl
all_taken (x ∷ xs) zero none = absurd cc
all_taken {T} (x ∷ xs) (suc place) none = ap (λ (ys : List T). x ∷ ys) (all_taken xs place none)

-- If all chunks end before the key, the key's position is the length of the list.
pub place_at_end : {T : Type 0} (key : T → List ℕ) (k : List ℕ) (chunks : List (List T)) (place : ℕ) → NoneIsEmpty chunks → AreRising (map key (joined chunks))
    → place ≡ prefix_len (ends_before key k) chunks → None ≡ slice_get chunks place → prefix_len (is_below key k) (joined chunks) ≡ length (joined (take place chunks))
place_at_end {T} key k chunks place full rising is none =
    let a : Around key k chunks place = around key k chunks place (recursion_from_All (λ (chunk : List T). 1 ≤ length chunk) chunks full) (rises_from_rising key (joined chunks) rising) is in
    let all : take place chunks ≡ chunks = all_taken chunks place none in
    let low : Every (λ (y : T). is_below key k y ≡ true) (joined chunks) =
    every_weaker (λ (y : T). cmp (key y) k ≡ Less) (λ (y : T). is_below key k y ≡ true) (joined chunks) (λ y less. ap is_lt less)
    (subst (λ (rs : List (List T)). Every (λ (y : T). cmp (key y) k ≡ Less) (joined rs)) all a.low) in
    let count : prefix_len (is_below key k) (joined chunks ++ []) ≡ length (joined chunks) + 0 = passing (is_below key k) (joined chunks) [] low in
    let counted : length (joined chunks) + 0 ≡ length (joined chunks) = omega arith in
    ap (prefix_len (is_below key k)) (sym (append-nil (joined chunks))) ∙ count ∙ counted ∙ ap (λ (rs : List (List T)). length (joined rs)) (sym all)
