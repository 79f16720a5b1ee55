-- Marking which tokens have been answered.
use Rattle.std.proofs.Common.{◌≡◌, ℕ, ◌+◌, ◌<◌, Bool, true, false, cond, List, [], ◌∷◌, ◌++◌, length, get_or, map, take, drop}
use Rattle.std.proofs.Common.{Option, Some, None, refl, sym, ap, ◌∙◌, append_assoc, arith, inl, inr}
use Rattle.std.specs.Prelude.{◌≢◌, ◌||◌, position, slice_get, slice_set, option_and_then, option_to_list, if◌then◌else◌}
use Rattle.std.specs.Option.{option_map_or}
use Rattle.std.specs.List.{position_or_len}
use Rattle.std.specs.Cmp.Lexicographic.{same_text}
use Rattle.std.specs.Str.{bytes_eq}
use Rattle.std.proofs.lemmas.Bool.{cases_eq, cases_lt, cases_Bool, ltb-false}
use Rattle.std.proofs.lemmas.List.{get_or-map, get_or-set_same, get_or-set_other, length-set, length-map, map-append, take_more, drop_more}
use Rattle.std.proofs.lemmas.Grind.{flat_map-append}
use Rattle.std.proofs.lemmas.List.Folds.{list_any-append, find_at}
use Rattle.std.proofs.lemmas.List.Quantifiers.{position-Some}
use Rattle.std.proofs.lemmas.Option.{slice_get_past}
use Rattle.json.specs.Token.{Token as JsonToken}
use Rattle.unl_documents.specs.Tokens.{tokens_of, all_tokens}
use Rattle.unl_tokens.specs.declared.token.Token.{Token}
use Rattle.unl_tokens.specs.Books.{has_text}
use Rattle.unl_tokens.specs.Names.{is_one_of}
use Rattle.unl_tokens.specs.Requests.{answered, unmarked, marked, token_of, token_data, token_tokens, known_after}
use Rattle.unl_tokens.specs.Valid.{HaveDistinctTexts}
use Rattle.unl_tokens.proofs.Different.{different_text, none_passes, no_place}
use Rattle.unl_tokens.proofs.Same.{text_refl}

-- exactly the tokens whose texts were asked for before are marked
pub record Marked (tokens : List Token) (before : List (List ℕ)) (marks : List Bool) : Type 0 where
  pub count : length marks ≡ length tokens
  pub each : (k : ℕ) (d : Token) (e : Bool) → k < length tokens → get_or marks k e ≡ is_one_of (get_or tokens k d).text before

pub nothing_marked : (tokens : List Token) → Marked tokens [] (map (λ (t : Token). false) tokens)
nothing_marked tokens = record { count = length-map tokens (λ (t : Token). false); each = λ k d e lt. get_or-map (λ (t : Token). false) tokens k d e lt }

-- ---- asking for one more text

or_false : (a b : Bool) → b ≡ false → (a || (b || false)) ≡ a
or_false true b h = refl
or_false false b h = rw h refl

or_true : (a b : Bool) → b ≡ true → (a || (b || false)) ≡ true
or_true true b h = refl
or_true false b h = rw h refl

other_text : (a b : List ℕ) → a ≢ b → bytes_eq b a ≡ false
other_text a b differ =
    elim (cases_Bool (bytes_eq b a)) [
      | inl equal ↦ absurd (differ (sym (same_text b a (sym equal))))
      | inr unequal ↦ unequal
    ]

as_before : (text asked : List ℕ) (before : List (List ℕ)) → text ≢ asked → is_one_of text (before ++ asked ∷ []) ≡ is_one_of text before
as_before text asked before other = list_any-append (λ (t : List ℕ). bytes_eq t text) before (asked ∷ []) ∙ or_false (is_one_of text before) (bytes_eq asked text) (other_text text asked other)

listed_now : (text asked : List ℕ) (before : List (List ℕ)) → text ≡ asked → is_one_of text (before ++ asked ∷ []) ≡ true
listed_now text asked before same = list_any-append (λ (t : List ℕ). bytes_eq t text) before (asked ∷ []) ∙ or_true (is_one_of text before) (bytes_eq asked text) (rw same (text_refl asked))

other_place : (tokens : List Token) (place k : ℕ) (d : Token) (text : List ℕ) → HaveDistinctTexts tokens → place < length tokens → k < length tokens → k ≢ place → (get_or tokens place d).text ≡ text → (get_or tokens k d).text ≢ text
other_place tokens place k d text different within below apart same = λ equal.
    elim (cases_lt k place) [
      | inl before ↦ different k place d before within (equal ∙ sym same)
      | inr after ↦ different place k d (omega arith) below (same ∙ sym equal)
    ]

mark_found : (place : ℕ) (tokens : List Token) (before : List (List ℕ)) (marks : List Bool) (text : List ℕ) → position (has_text text) tokens ≡ Some place → HaveDistinctTexts tokens → Marked tokens before marks → (k : ℕ) (d : Token) (e : Bool) → k < length tokens → get_or (slice_set marks place true) k e ≡ is_one_of (get_or tokens k d).text (before ++ text ∷ [])
mark_found place tokens before marks text at different old k d e lt =
    let found = position-Some (has_text text) tokens place d at in
    let same : (get_or tokens place d).text ≡ text = same_text _ _ (sym found.1) in
    elim (cases_eq k place) [
      | inl here ↦ rw here (get_or-set_same marks place true e (rw old.count found.0) ∙ sym (listed_now (get_or tokens place d).text text before same))
      | inr apart ↦ get_or-set_other marks place k true e apart ∙ old.each k d e lt ∙ sym (as_before (get_or tokens k d).text text before (other_place tokens place k d text different found.0 lt apart same))
    ]

next_marks : (found : Option ℕ) (tokens : List Token) (before : List (List ℕ)) (marks : List Bool) (text : List ℕ) → position (has_text text) tokens ≡ found → HaveDistinctTexts tokens → Marked tokens before marks → Marked tokens (before ++ text ∷ []) (option_map_or (λ place. slice_set marks place true) found marks)
next_marks None tokens before marks text at different old = record {
  count = old.count;
  each = λ k d e lt. old.each k d e lt ∙ sym (as_before (get_or tokens k d).text text before (different_text (get_or tokens k d).text text (none_passes (has_text text) tokens k d at lt)));
}
next_marks (Some place) tokens before marks text at different old = record {
  count = length-set marks place true ∙ old.count;
  each = mark_found place tokens before marks text at different old;
}

-- ---- the token that is answered

chosen : Bool → Option Token → Option Token
chosen before found = if before then None else found

none_chosen : (b : Bool) (found : Option Token) → found ≡ None → None ≡ chosen b found
unfolding chosen
none_chosen true found none = refl
none_chosen false found none = sym none

that_place : (b : Bool) (n m : ℕ) → cond b (Some n) None ≡ Some m → n ≡ m
that_place true n m same = cc
that_place false n m same = absurd (cc)

answered_at : (place : ℕ) (tokens : List Token) (before : List (List ℕ)) (marks : List Bool) (text : List ℕ) (d : Token) → position (has_text text) tokens ≡ Some place → Marked tokens before marks → chosen (get_or marks place true) (slice_get tokens place) ≡ chosen (is_one_of text before) (token_of text tokens)
answered_at place tokens before marks text d at old =
    let found = position-Some (has_text text) tokens place d at in
    let same : (get_or tokens place d).text ≡ text = same_text _ _ (sym found.1) in
    let mark : get_or marks place true ≡ is_one_of text before = old.each place d true found.0 ∙ ap (λ (t : List ℕ). is_one_of t before) same in
    let there : slice_get tokens place ≡ token_of text tokens = sym (find_at (has_text text) tokens ∙ ap (slice_get tokens) (that_place _ _ _ at)) in
    ap (λ (b : Bool). chosen b (slice_get tokens place)) mark ∙ ap (chosen (is_one_of text before)) there

next_answer : (found : Option ℕ) (tokens : List Token) (before : List (List ℕ)) (marks : List Bool) (text : List ℕ) → position (has_text text) tokens ≡ found → Marked tokens before marks → option_and_then (λ place. if get_or marks place true then None else slice_get tokens place) found ≡ answered tokens before text
unfolding chosen
next_answer None tokens before marks text at old =
    none_chosen (is_one_of text before) (token_of text tokens) (find_at (has_text text) tokens ∙ slice_get_past tokens (position_or_len (has_text text) tokens) (ltb-false _ _ (no_place _ _ at)))
next_answer (Some place) [] before marks text at old = absurd (cc)
next_answer (Some place) (t ∷ ts) before marks text at old = answered_at place (t ∷ ts) before marks text t at old

-- for one more text: the token that is answered, and the marks after it
pub marks_go_on : (tokens : List Token) (before : List (List ℕ)) (marks : List Bool) (text : List ℕ) → HaveDistinctTexts tokens → Marked tokens before marks → (unmarked tokens marks text ≡ answered tokens before text) × Marked tokens (before ++ text ∷ []) (marked tokens marks text)
marks_go_on tokens before marks text different old = (
  next_answer (position (has_text text) tokens) tokens before marks text refl old,
  next_marks (position (has_text text) tokens) tokens before marks text refl different old,
)

-- ---- what is printed, one text after the other

tokens_apart : (one rest : List Token) → token_tokens (one ++ rest) ≡ token_tokens one ++ token_tokens rest
tokens_apart one rest = ap all_tokens (map-append token_data one rest) ∙ flat_map-append tokens_of (map token_data one) (map token_data rest)

regrouped : (prefix : List JsonToken) (one rest : List Token) → prefix ++ token_tokens (one ++ rest) ≡ (prefix ++ token_tokens one) ++ token_tokens rest
regrouped prefix one rest = ap (λ ts. prefix ++ ts) (tokens_apart one rest) ∙ sym (append_assoc prefix (token_tokens one) (token_tokens rest))

pub prints_on : (tokens : List Token) (asked : List (List ℕ)) (i : ℕ) (text : List ℕ) (prefix : List JsonToken) (marks : List Bool) → i < length asked → text ≡ get_or asked i text → HaveDistinctTexts tokens → Marked tokens (take i asked) marks → (prefix ++ token_tokens (option_to_list (unmarked tokens marks text))) ++ token_tokens (known_after tokens (take (i + 1) asked) (drop (i + 1) asked)) ≡ prefix ++ token_tokens (known_after tokens (take i asked) (drop i asked))
prints_on tokens asked i text prefix marks lt at different old =
    let before = take i asked in
    let later = drop (i + 1) asked in
    let more : take (i + 1) asked ≡ before ++ text ∷ [] = take_more asked i text lt ∙ ap (λ (t : List ℕ). before ++ t ∷ []) (sym at) in
    let whole : drop i asked ≡ text ∷ later = drop_more asked i text lt ∙ ap (λ (t : List ℕ). t ∷ later) (sym at) in
    let same = (marks_go_on tokens before marks text different old).0 in
    rw same (rw more (rw whole (sym (regrouped prefix (option_to_list (answered tokens before text)) (known_after tokens (before ++ text ∷ []) later)))))

pub marks_on : (tokens : List Token) (asked : List (List ℕ)) (i : ℕ) (text : List ℕ) (marks : List Bool) → i < length asked → text ≡ get_or asked i text → HaveDistinctTexts tokens → Marked tokens (take i asked) marks → Marked tokens (take (i + 1) asked) (marked tokens marks text)
marks_on tokens asked i text marks lt at different old =
    let prefix : take (i + 1) asked ≡ take i asked ++ text ∷ [] = take_more asked i text lt ∙ ap (λ (t : List ℕ). take i asked ++ t ∷ []) (sym at) in
    rw prefix ((marks_go_on tokens (take i asked) marks text different old).1)
