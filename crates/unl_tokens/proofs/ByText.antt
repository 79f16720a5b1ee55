-- The result of a lookup in the index of tokens by text, and changes of the index.
use Rattle.std.proofs.Common.{◌≡◌, ℕ, zero, suc, ◌+◌, ◌<◌, ◌≤◌, Bool, true, false, List, [], ◌∷◌, ◌++◌, length, get_or, Option, Some, None, Less, Equal, Greater, nat_cmp, refl, sym, ap, ◌∙◌, arith, inl, inr}
use Rattle.std.specs.Prelude.{◌≢◌, All, AllPairs, IfSome, insert, slice_get, slice_set, option_and_then, if◌then◌else◌}
use Rattle.std.specs.Cmp.Lexicographic.{slice_cmp, same_text}
use Rattle.std.specs.List.Sorted.{IsPartitionedBy}
use Rattle.std.specs.Ordering.{is_lt, is_eq, ordering_reverse}
use Rattle.std.specs.Str.{bytes_eq}
use Rattle.std.specs.declared.cmp.Ordering.{Ordering}
use Rattle.std.proofs.lemmas.Bool.{cases_lt}
use Rattle.std.proofs.lemmas.Cmp.{nat_list_cmp_total}
use Rattle.std.proofs.lemmas.List.{length-append, length-set}
use Rattle.std.proofs.lemmas.List.Edits.{length-insert, get_or-insert_at, get_or-insert_below, get_or-insert_above}
use Rattle.std.proofs.lemmas.List.Elements.{All-nil, All-cons, All-head, All-tail}
use Rattle.std.proofs.lemmas.List.Kept.{AllPairs-cons}
use Rattle.std.proofs.lemmas.List.Quantifiers.{position-Some}
use Rattle.std.proofs.lemmas.Map.Text.{is_eq-slice_cmp}
use Rattle.std.proofs.lemmas.Option.{slice_get_cases, slice_get_past, slice_get_within, slice_get-get_or, get_or_from_slice_get}
use Rattle.std.proofs.Math.ListN.{get_or-append}
use Rattle.std.proofs.Math.Seq.{get_or-append_seam}
use Rattle.unl_tokens.specs.declared.token.Token.{Token}
use Rattle.unl_tokens.specs.Books.{has_text, place_of_text}
use Rattle.unl_tokens.specs.Index.{text_at, ComesBefore, IsListed, IsTextIndex, is_below, IsPointOf, if_text}
use Rattle.unl_tokens.proofs.Different.{different_text, none_passes, same_texts}
use Rattle.unl_tokens.proofs.Same.{text_refl}

-- ---- the order of texts

is_less : (o : Ordering) → is_lt o ≡ true → o ≡ Less
is_less Less h = refl
is_less Equal h = absurd (cc)
is_less Greater h = absurd (cc)

not_less : (o : Ordering) → is_eq o ≡ true → is_lt o ≡ false
not_less Less h = absurd (cc)
not_less Equal h = refl
not_less Greater h = absurd (cc)

-- no text comes before itself
not_itself : (text : List ℕ) → is_lt (slice_cmp nat_cmp text text) ≡ false
not_itself text = not_less _ (is_eq-slice_cmp text text ∙ text_refl text)

-- of two different texts, the second comes first if the first doesn't
turned : (a b : List ℕ) → is_lt (slice_cmp nat_cmp a b) ≡ false → a ≢ b → slice_cmp nat_cmp b a ≡ Less
turned a b not other = nat_list_cmp_total.antisymm b a ∙ by (slice_cmp nat_cmp a b) (is_eq-slice_cmp a b) not
  where
    by : (o : Ordering) → is_eq o ≡ bytes_eq a b → is_lt o ≡ false → ordering_reverse o ≡ Less
    by Less known not = absurd (cc)
    by Equal known not = absurd (other (same_text a b known))
    by Greater known not = refl

-- ---- the text at a position

text_there : (tokens : List Token) (place : ℕ) (d : Token) → place < length tokens → text_at tokens place ≡ (get_or tokens place d).text
text_there tokens place d lt = rw (slice_get-get_or tokens place d lt) refl

place_there : (tokens : List Token) (text : List ℕ) (place : ℕ) → place_of_text text tokens ≡ Some place → (place < length tokens) × (text_at tokens place ≡ text)
place_there [] text place is = absurd (cc)
place_there (t ∷ ts) text place is =
    let found = position-Some (has_text text) (t ∷ ts) place t is in
    (found.0, text_there (t ∷ ts) place t found.0 ∙ same_text _ _ (sym found.1))

nowhere : (tokens : List Token) (text : List ℕ) (place : ℕ) → place_of_text text tokens ≡ None → place < length tokens → text_at tokens place ≢ text
nowhere [] text place none lt = absurd (omega arith)
nowhere (t ∷ ts) text place none lt = λ same. different_text _ _ (none_passes (has_text text) (t ∷ ts) place t none lt) (sym (text_there (t ∷ ts) place t lt) ∙ same)

-- ---- what a lookup finds

pub partitioned : (tokens : List Token) (text : List ℕ) (places : List ℕ) → AllPairs (ComesBefore tokens) places → IsPartitionedBy (is_below tokens text) places
partitioned tokens text places rising i j d le lt below =
    elim (cases_lt i j) [
      | inl before ↦ ap is_lt (nat_list_cmp_total.trans (text_at tokens (get_or places i d)) (text_at tokens (get_or places j d)) text (rising i j d before lt) (is_less _ below))
      | inr after ↦ let same : i ≡ j = omega arith in rw same below
    ]

-- if a text is in the index at all, it is at its point
only_there : (tokens : List Token) (text : List ℕ) (places : List ℕ) (at i place : ℕ) → AllPairs (ComesBefore tokens) places → IsPointOf tokens text places at → slice_get places i ≡ Some place → text_at tokens place ≡ text → i ≡ at
only_there tokens text places at i place rising point represents same =
    let inside : i < length places = slice_get_within places i place represents in
    let here : text_at tokens (get_or places i 0) ≡ text = ap (text_at tokens) (get_or_from_slice_get places i place 0 represents) ∙ same in
    elim (cases_lt i at) [
      | inl before ↦
          let below : is_lt (slice_cmp nat_cmp text text) ≡ true = ap (λ t. is_lt (slice_cmp nat_cmp t text)) (sym here) ∙ point.0 i 0 (omega arith) before in
          let not = not_itself text in absurd (cc)
      | inr after ↦
          elim (cases_lt at i) [
            | inl past ↦
                let below : is_lt (slice_cmp nat_cmp (text_at tokens (get_or places at 0)) text) ≡ true = ap (λ t. is_lt (slice_cmp nat_cmp (text_at tokens (get_or places at 0)) t)) (sym here) ∙ ap is_lt (rising at i 0 past inside) in
                let not : is_lt (slice_cmp nat_cmp (text_at tokens (get_or places at 0)) text) ≡ false = point.1 at 0 (omega arith) (omega arith) in
                let clash : true ≡ false = sym below ∙ not in absurd (cc)
            | inr here ↦ omega arith
          ]
    ]

-- a token with this text is found at the point
found_there : (tokens : List Token) (text : List ℕ) (places : List ℕ) (at place : ℕ) → IsTextIndex tokens places → IsPointOf tokens text places at → place < length tokens → text_at tokens place ≡ text
    → option_and_then (if_text tokens text) (slice_get places at) ≡ Some place
found_there tokens text places at place index point lt same =
    let listed = index.whole place lt in
    let there : listed.0 ≡ at = only_there tokens text places at listed.0 place index.rising point listed.1 same in
    let represents : slice_get places at ≡ Some place = ap (slice_get places) (sym there) ∙ listed.1 in
    let known : bytes_eq (text_at tokens place) text ≡ true = rw same (text_refl text) in
    rw (represents, known) refl

-- if the lookup at a point returns a position, the index has this position there, and its token has the text
picked : (tokens : List Token) (text : List ℕ) (held : Option ℕ) (place : ℕ) → option_and_then (if_text tokens text) held ≡ Some place → (held ≡ Some place) × (text_at tokens place ≡ text)
picked tokens text None place is = absurd (cc)
picked tokens text (Some other) place is = by (bytes_eq (text_at tokens other) text) refl is
  where
    by : (b : Bool) → bytes_eq (text_at tokens other) text ≡ b → (if b then Some other else None) ≡ Some place → (Some other ≡ Some place) × (text_at tokens place ≡ text)
    by true known is = let same : other ≡ place = cc in (is, ap (text_at tokens) (sym same) ∙ same_text _ _ (sym known))
    by false known is = absurd (cc)

none_there : (tokens : List Token) (text : List ℕ) (places : List ℕ) (at : ℕ) (found : Option ℕ) → IsTextIndex tokens places → place_of_text text tokens ≡ None → option_and_then (if_text tokens text) (slice_get places at) ≡ found → found ≡ None
none_there tokens text places at None index none is = refl
none_there tokens text places at (Some place) index none is =
    let there = picked tokens text (slice_get places at) place is in
    let here : get_or places at 0 ≡ place = get_or_from_slice_get places at place 0 there.0 in
    let lt : get_or places at 0 < length tokens = index.within at 0 (slice_get_within places at place there.0) in
    absurd (nowhere tokens text place none (omega (arith, here, lt)) there.1)

pub finds : (tokens : List Token) (text : List ℕ) (places : List ℕ) (at : ℕ) → IsTextIndex tokens places → IsPointOf tokens text places at → option_and_then (if_text tokens text) (slice_get places at) ≡ place_of_text text tokens
finds tokens text places at index point = by (place_of_text text tokens) refl
  where
    by : (found : Option ℕ) → place_of_text text tokens ≡ found → option_and_then (if_text tokens text) (slice_get places at) ≡ found
    by None is = none_there tokens text places at _ index is refl
    by (Some place) is = let there = place_there tokens text place is in found_there tokens text places at place index point there.0 there.1

pub place_below : (tokens : List Token) (text : List ℕ) (found : Option ℕ) → found ≡ place_of_text text tokens → IfSome found (λ place. place < length tokens)
place_below tokens text None is = tt
place_below tokens text (Some place) is = (place_there tokens text place (sym is)).0

-- ---- inserting a position

insert_all : {X : Type 0} (P : X → Type 0) (xs : List X) (at : ℕ) (y : X) → at ≤ length xs → All P xs → P y → All P (insert xs at y)
insert_all P xs zero y le each new = All-cons P y xs new each
insert_all P [] (suc at) y le each new = absurd (omega arith)
insert_all P (x ∷ xs) (suc at) y le each new = All-cons P x (insert xs at y) (All-head P x xs each) (insert_all P xs at y (omega arith) (All-tail P x xs each) new)

insert_pairs : {X : Type 0} (R : X → X → Type 0) (xs : List X) (at : ℕ) (y : X) → at ≤ length xs → AllPairs R xs → ((k : ℕ) (d : X) → k < at → R (get_or xs k d) y) → ((k : ℕ) (d : X) → at ≤ k → k < length xs → R y (get_or xs k d))
    → AllPairs R (insert xs at y)
insert_pairs R xs zero y le pairs earlier back = AllPairs-cons R y xs (λ k d lt. back k d (omega arith) lt) pairs
insert_pairs R [] (suc at) y le pairs earlier back = absurd (omega arith)
insert_pairs R (x ∷ xs) (suc at) y le pairs earlier back =
    AllPairs-cons R x (insert xs at y) (insert_all (R x) xs at y (omega arith) (λ k d lt. pairs 0 (suc k) d (omega arith) (omega arith)) (earlier 0 x (omega arith)))
    (insert_pairs R xs at y (omega arith) (λ i j d before lt. pairs (suc i) (suc j) d (omega arith) (omega arith)) (λ k d lt. earlier (suc k) d (omega arith)) (λ k d from lt. back (suc k) d (omega arith) (omega arith)))

still_listed : (places : List ℕ) (at new place : ℕ) → at ≤ length places → IsListed place places → IsListed place (insert places at new)
still_listed places at new place inside listed =
    let i = listed.0 in
    let lt : i < length places = slice_get_within places i place listed.1 in
    let here : get_or places i 0 ≡ place = get_or_from_slice_get places i place 0 listed.1 in
    let longer : length (insert places at new) ≡ length places + 1 = length-insert places at new inside in
    elim (cases_lt i at) [
      | inl before ↦ (i, slice_get-get_or (insert places at new) i 0 (omega arith) ∙ ap Some (get_or-insert_below places at new 0 i before inside ∙ here))
      | inr after ↦ (i + 1, slice_get-get_or (insert places at new) (i + 1) 0 (omega arith) ∙ ap Some (get_or-insert_above places at new 0 i after inside ∙ here))
    ]

now_listed : (places : List ℕ) (at new : ℕ) → at ≤ length places → IsListed new (insert places at new)
now_listed places at new inside =
    let longer : length (insert places at new) ≡ length places + 1 = length-insert places at new inside in
    (at, slice_get-get_or (insert places at new) at 0 (omega arith) ∙ ap Some (get_or-insert_at places at new 0 inside))

-- ---- appending a token with a new text

text_before : (tokens : List Token) (token : Token) (place : ℕ) → place < length tokens → text_at (tokens ++ token ∷ []) place ≡ text_at tokens place
text_before tokens token place lt =
    let more : place < length (tokens ++ token ∷ []) = rw length-append (omega arith) in
    text_there (tokens ++ token ∷ []) place token more ∙ ap (λ (t : Token). t.text) (get_or-append tokens (token ∷ []) token place lt) ∙ sym (text_there tokens place token lt)

text_last : (tokens : List Token) (token : Token) → text_at (tokens ++ token ∷ []) (length tokens) ≡ token.text
text_last tokens token =
    let more : length tokens < length (tokens ++ token ∷ []) = rw length-append (omega arith) in
    text_there (tokens ++ token ∷ []) (length tokens) token more ∙ ap (λ (t : Token). t.text) (get_or-append_seam tokens token [] token)

pub grows : (tokens : List Token) (token : Token) (places : List ℕ) (at : ℕ) → IsTextIndex tokens places → place_of_text token.text tokens ≡ None → IsPointOf tokens token.text places at → at ≤ length places
    → IsTextIndex (tokens ++ token ∷ []) (insert places at (length tokens))
grows tokens token places at index fresh point inside =
    let all = tokens ++ token ∷ [] in
    let last = text_last tokens token in
    let old = λ (k d : ℕ) (lt : k < length places). text_before tokens token (get_or places k d) (index.within k d lt) in
    let longer : length all ≡ length tokens + 1 = rw length-append refl in
    record {
      within = insert_all (λ place. place < length all) places at (length tokens) inside (λ k d lt. let one = index.within k d lt in omega (arith, one, longer)) (omega (arith, longer));
      rising = insert_pairs (ComesBefore all) places at (length tokens) inside
          (λ i j d before lt. (λ n. slice_cmp nat_cmp (old i d (omega (arith, before, lt)) n) (old j d lt n)) ∙ index.rising i j d before lt)
          (λ k d lt. (λ n. slice_cmp nat_cmp (old k d (omega (arith, lt, inside)) n) (last n)) ∙ is_less _ (point.0 k d (omega arith) lt))
          (λ k d from lt. (λ n. slice_cmp nat_cmp (last n) (old k d lt n)) ∙ turned _ _ (point.1 k d from lt) (nowhere tokens token.text (get_or places k d) fresh (index.within k d lt)));
      whole = λ place lt.
          elim (cases_lt place (length tokens)) [
            | inl before ↦ still_listed places at (length tokens) place inside (index.whole place before)
            | inr after ↦ let same : place ≡ length tokens = omega (arith, after, lt, longer) in rw same (now_listed places at (length tokens) inside)
          ];
    }

-- ---- replacing the token with the same text

text_stays : (tokens : List Token) (place : ℕ) (token : Token) (k : ℕ) → place_of_text token.text tokens ≡ Some place → text_at (slice_set tokens place token) k ≡ text_at tokens k
text_stays tokens place token k is =
    let there = place_there tokens token.text place is in
    elim ((slice_get_cases tokens k).1) [
      | inl at ↦
          let d = at.0 in
          let same : (get_or tokens place d).text ≡ token.text = sym (text_there tokens place d there.0) ∙ there.1 in
          text_there (slice_set tokens place token) k d (rw length-set at.1) ∙ same_texts tokens place token k d there.0 same ∙ sym (text_there tokens k d at.1)
      | inr past ↦
          let none : slice_get (slice_set tokens place token) k ≡ None = slice_get_past (slice_set tokens place token) k (rw length-set past.0) in
          rw (none, past.1) refl
    ]

pub stays : (tokens : List Token) (place : ℕ) (token : Token) (places : List ℕ) → IsTextIndex tokens places → place_of_text token.text tokens ≡ Some place → IsTextIndex (slice_set tokens place token) places
stays tokens place token places index is = record {
  within = λ k d lt. rw length-set (index.within k d lt);
  rising = λ i j d before lt. (λ n. slice_cmp nat_cmp (text_stays tokens place token (get_or places i d) is n) (text_stays tokens place token (get_or places j d) is n)) ∙ index.rising i j d before lt;
  whole = λ k lt. index.whole k (rw length-set at lt);
}

pub nothing_listed : IsTextIndex [] []
nothing_listed = record { within = All-nil (λ place. place < 0); rising = λ i j d before lt. absurd (omega arith); whole = λ place lt. absurd (omega arith) }
