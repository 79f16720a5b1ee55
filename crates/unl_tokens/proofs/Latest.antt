-- Repeated texts: each counts once, where it first occurs.
use Rattle.std.proofs.Common.{◌≡◌, ℕ, suc, ◌+◌, Bool, true, false, cond, List, [], ◌∷◌, ◌++◌, length, Option, Some, None, Ok, Err, refl, sym, ap, ◌∙◌, append_assoc, arith, inl, inr}
use Rattle.std.specs.Prelude.{◌≢◌, ◌&&◌, ◌||◌, not, All, fold, filter, filter_map, nat_lt, option_to_list, if◌then◌else◌}
use Rattle.std.specs.List.{position_or_len, cons_option}
use Rattle.std.specs.Option.{option_or}
use Rattle.std.specs.Str.{bytes_eq}
use Rattle.std.proofs.lemmas.Bool.{cases_Bool}
use Rattle.std.proofs.lemmas.Bool.Decides.{nat_tests}
use Rattle.std.proofs.lemmas.List.{append-nil}
use Rattle.std.proofs.lemmas.List.Elements.{All-head, All-tail}
use Rattle.std.proofs.lemmas.List.Folds.{list_any-append}
use Rattle.std.proofs.lemmas.Slice.Eq.{bytes_eq-Decides}
use Rattle.unl_tokens.specs.declared.fault.BadBook.TheVariants.{TooMany}
use Rattle.unl_tokens.specs.declared.token.Token.{Token}
use Rattle.unl_tokens.specs.Books.{has_text, put_at, with_token, gathered, book_of, within_limit}
use Rattle.unl_tokens.specs.Laws.{each_once, texts_of, last_with_text, LatestAreGathered, LatestAreRead, KnownOnce}
use Rattle.unl_tokens.specs.Names.{is_one_of}
use Rattle.unl_tokens.specs.Requests.{token_of, answered, known_after, known}
use Rattle.unl_tokens.specs.Valid.{HaveDistinctTexts}
use Rattle.unl_tokens.proofs.Different.{stays_different, nothing_differs}
use Rattle.unl_tokens.proofs.Same.{text_refl}

abbrev Texts : Type 0
Texts = List (List ℕ)

-- the texts that are not among the earlier ones
abbrev others : Texts → Texts → Texts
others before texts = filter (λ text. not (is_one_of text before)) texts

-- the texts other than this one
abbrev apart : List ℕ → Texts → Texts
apart text texts = filter (λ other. not (bytes_eq text other)) texts

-- ---- filters

filter_same : {X : Type 0} (p q : X → Bool) → ((x : X) → p x ≡ q x) → (xs : List X) → filter p xs ≡ filter q xs
filter_same p q e [] = refl
filter_same p q e (x ∷ xs) = λ i. cond (e x i) (x ∷ filter_same p q e xs i) (filter_same p q e xs i)

filter_both : {X : Type 0} (p q : X → Bool) (xs : List X) → filter p (filter q xs) ≡ filter (λ x. q x && p x) xs
filter_both p q [] = refl
filter_both p q (x ∷ xs) = by (q x) (filter_both p q xs)
  where
    by : (b : Bool) → filter p (filter q xs) ≡ filter (λ x. q x && p x) xs → filter p (cond b (x ∷ filter q xs) (filter q xs)) ≡ cond (b && p x) (x ∷ filter (λ x. q x && p x) xs) (filter (λ x. q x && p x) xs)
    by true later = rw later refl
    by false later = later

nothing_before : (texts : Texts) → others [] texts ≡ texts
nothing_before [] = refl
nothing_before (text ∷ texts) = ap (λ (ts : Texts). text ∷ ts) (nothing_before texts)

-- the disjunction of `a` and `b` is false exactly if both are false. Below, `a`: a text is among earlier texts; `b`: it equals one more.
not_or : (a b : Bool) → not (a || (b || false)) ≡ (not b && not a)
not_or true true = refl
not_or true false = refl
not_or false true = refl
not_or false false = refl

one_more : (text : List ℕ) (before texts : Texts) → others (before ++ text ∷ []) texts ≡ others before (apart text texts)
one_more text before texts =
    filter_same _ _ (λ (s : List ℕ). ap not (list_any-append (λ other. bytes_eq other s) before (text ∷ [])) ∙ not_or (is_one_of s before) (bytes_eq text s)) texts
    ∙ sym (filter_both (λ s. not (is_one_of s before)) (λ other. not (bytes_eq text other)) texts)

-- leaving out a text that is among the earlier ones changes nothing
no_more : (text : List ℕ) (before texts : Texts) → is_one_of text before ≡ true → others before texts ≡ others before (apart text texts)
no_more text before texts represents =
    filter_same _ _ (λ (s : List ℕ). each s) texts ∙ sym (filter_both (λ s. not (is_one_of s before)) (λ other. not (bytes_eq text other)) texts)
  where
    each : (s : List ℕ) → not (is_one_of s before) ≡ (not (bytes_eq text s) && not (is_one_of s before))
    each s =
        elim (cases_Bool (bytes_eq text s)) [
          | inl decided ↦ let here : is_one_of s before ≡ true = rw ((bytes_eq-Decides text s).0 decided) at represents in rw (decided, here) refl
          | inr decided ↦ rw decided refl
        ]

map_same : (f g : List ℕ → Option Token) → ((text : List ℕ) → f text ≡ g text) → (texts : Texts) → filter_map f texts ≡ filter_map g texts
map_same f g e [] = refl
map_same f g e (text ∷ texts) = λ i. cons_option (e text i) (map_same f g e texts i)

-- ---- the known tokens of a request

answered_one : (f : List ℕ → Option Token) (text : List ℕ) (later : Texts) (b : Bool)
    → option_to_list (if b then None else f text) ++ filter_map f later ≡ filter_map f (cond (not b) (text ∷ later) later)
answered_one f text later true = refl
answered_one f text later false = by (f text)
  where
    by : (found : Option Token) → option_to_list found ++ filter_map f later ≡ cons_option found (filter_map f later)
    by None = refl
    by (Some t) = refl

known_so : (tokens : List Token) (before texts : Texts) → known_after tokens before texts ≡ filter_map (λ text. token_of text tokens) (others before (each_once texts))
unfolding each_once
known_so tokens before [] = refl
known_so tokens before (text ∷ texts) =
    let later : known_after tokens (before ++ text ∷ []) texts ≡ filter_map (λ text. token_of text tokens) (others before (apart text (each_once texts))) =
    known_so tokens (before ++ text ∷ []) texts ∙ ap (filter_map (λ text. token_of text tokens)) (one_more text before (each_once texts)) in
    ap (λ (ts : List Token). option_to_list (answered tokens before text) ++ ts) later
    ∙ answered_one (λ text. token_of text tokens) text (others before (apart text (each_once texts))) (is_one_of text before)

pub known_once : KnownOnce
unfolding known
known_once book asked = known_so book [] asked ∙ ap (filter_map (λ text. token_of text book)) (nothing_before (each_once asked))

-- ---- one more token in a book

put_next : (b : Bool) (n : ℕ) (a x : Token) (book : List Token)
    → put_at (cond (nat_lt (cond (not b) (1 + n) 0) (suc (length book))) (Some (cond (not b) (1 + n) 0)) None) (a ∷ book) x ≡ cond b (x ∷ book) (a ∷ put_at (cond (nat_lt n (length book)) (Some n) None) book x)
put_next true n a x book =
    let here : nat_lt 0 (suc (length book)) ≡ true = grind (arith, nat_tests) in
    rw here refl
put_next false n a x book =
    elim (cases_Bool (nat_lt n (length book))) [
      | inl decided ↦ let here : nat_lt (1 + n) (suc (length book)) ≡ true = grind (arith, nat_tests) in let one : 1 + n ≡ suc n = omega arith in rw (here, decided, one) refl
      | inr decided ↦ let here : nat_lt (1 + n) (suc (length book)) ≡ false = grind (arith, nat_tests) in rw (here, decided) refl
    ]

with_next : (a : Token) (book : List Token) (x : Token) → with_token (a ∷ book) x ≡ cond (bytes_eq a.text x.text) (x ∷ book) (a ∷ with_token book x)
unfolding with_token
with_next a book x = put_next (bytes_eq a.text x.text) (position_or_len (has_text x.text) book) a x book

with_first : (x : Token) → with_token [] x ≡ x ∷ []
unfolding with_token
with_first x = refl

texts_put : (book : List Token) (x : Token) → texts_of (with_token book x) ≡ (if is_one_of x.text (texts_of book) then texts_of book else texts_of book ++ x.text ∷ [])
texts_put [] x = rw (with_first x) refl
texts_put (a ∷ book) x =
    ap texts_of (with_next a book x) ∙ elim (cases_Bool (bytes_eq a.text x.text)) [
      | inl decided ↦ let same : a.text ≡ x.text = (bytes_eq-Decides a.text x.text).0 decided in rw decided (ap (λ (t : List ℕ). t ∷ texts_of book) (sym same))
      | inr decided ↦ rw (decided, texts_put book x) (by (is_one_of x.text (texts_of book)))
    ]
  where
    by : (b : Bool) → a.text ∷ (if b then texts_of book else texts_of book ++ x.text ∷ []) ≡ (if b then a.text ∷ texts_of book else a.text ∷ texts_of book ++ x.text ∷ [])
    by true = refl
    by false = refl

token_put : (t : List ℕ) (book : List Token) (x : Token) → token_of t (with_token book x) ≡ (if bytes_eq x.text t then Some x else token_of t book)
token_put t [] x = rw (with_first x) refl
token_put t (a ∷ book) x =
    ap (token_of t) (with_next a book x) ∙ elim (cases_Bool (bytes_eq a.text x.text)) [
      | inl decided ↦ let same : bytes_eq a.text t ≡ bytes_eq x.text t = ap (λ (s : List ℕ). bytes_eq s t) ((bytes_eq-Decides a.text x.text).0 decided) in rw (decided, same) (skip (bytes_eq x.text t))
      | inr decided ↦ rw (decided, token_put t book x) (either (bytes_eq a.text t) (bytes_eq x.text t) (not_both decided))
    ]
  where
    skip : (b : Bool) → (if b then Some x else token_of t book) ≡ (if b then Some x else (if b then Some a else token_of t book))
    skip true = refl
    skip false = refl

    not_both : bytes_eq a.text x.text ≡ false → bytes_eq a.text t ≡ true → bytes_eq x.text t ≡ true → true ≡ false
    not_both differ left right =
        let same : a.text ≡ x.text = (bytes_eq-Decides a.text t).0 left ∙ sym ((bytes_eq-Decides x.text t).0 right) in
        sym ((bytes_eq-Decides a.text x.text).1 same) ∙ differ

    either : (b d : Bool) → (b ≡ true → d ≡ true → true ≡ false) → (if b then Some a else (if d then Some x else token_of t book)) ≡ (if d then Some x else (if b then Some a else token_of t book))
    either true true never = absurd (let e : true ≡ false = never refl refl in cc)
    either true false never = refl
    either false true never = refl
    either false false never = refl

-- ---- all tokens

fold_texts : (tokens book : List Token) → texts_of (fold with_token book tokens) ≡ texts_of book ++ others (texts_of book) (each_once (texts_of tokens))
unfolding each_once
fold_texts [] book = sym (append-nil (texts_of book))
fold_texts (x ∷ tokens) book =
    fold_texts tokens (with_token book x) ∙ ap (λ (ts : Texts). ts ++ others ts (each_once (texts_of tokens))) (texts_put book x) ∙
    elim (cases_Bool (is_one_of x.text (texts_of book))) [
      | inl decided ↦ rw decided (ap (λ (ts : Texts). texts_of book ++ ts) (no_more x.text (texts_of book) (each_once (texts_of tokens)) decided))
      | inr decided ↦ rw decided (append_assoc (texts_of book) (x.text ∷ []) _ ∙ ap (λ (ts : Texts). texts_of book ++ x.text ∷ ts) (one_more x.text (texts_of book) (each_once (texts_of tokens))))
    ]

or_assoc : (a b c : Option Token) → option_or (option_or a b) c ≡ option_or a (option_or b c)
or_assoc None b c = refl
or_assoc (Some x) b c = refl

or_none : (a : Option Token) → option_or a None ≡ a
or_none None = refl
or_none (Some x) = refl

fold_token : (t : List ℕ) (tokens book : List Token) → token_of t (fold with_token book tokens) ≡ option_or (last_with_text t tokens) (token_of t book)
unfolding last_with_text
fold_token t [] book = refl
fold_token t (x ∷ tokens) book =
    fold_token t tokens (with_token book x) ∙ ap (option_or (last_with_text t tokens)) (token_put t book x ∙ here (bytes_eq x.text t))
    ∙ sym (or_assoc (last_with_text t tokens) (if bytes_eq x.text t then Some x else None) (token_of t book))
  where
    here : (b : Bool) → (if b then Some x else token_of t book) ≡ option_or (if b then Some x else None) (token_of t book)
    here true = refl
    here false = refl

-- one more token at the front of a book doesn't change which tokens are found for other texts than its own
same_later : (x : Token) (book tokens : List Token) → All (λ (t : Token). x.text ≢ t.text) tokens
    → filter_map (λ text. token_of text (x ∷ book)) (texts_of tokens) ≡ filter_map (λ text. token_of text book) (texts_of tokens)
same_later x book [] other = refl
same_later x book (t ∷ tokens) other =
    let differs : x.text ≢ t.text = All-head (λ (t : Token). x.text ≢ t.text) t tokens other in
    let no : bytes_eq x.text t.text ≡ false = unequal differs in
    let later = same_later x book tokens (All-tail (λ (t : Token). x.text ≢ t.text) t tokens other) in
    rw (no, later) refl
  where
    unequal : x.text ≢ t.text → bytes_eq x.text t.text ≡ false
    unequal differs =
        elim (cases_Bool (bytes_eq x.text t.text)) [
          | inl decided ↦ absurd (differs ((bytes_eq-Decides x.text t.text).0 decided))
          | inr decided ↦ decided
        ]

found_by_texts : (book : List Token) → HaveDistinctTexts book → filter_map (λ text. token_of text book) (texts_of book) ≡ book
found_by_texts [] different = refl
found_by_texts (x ∷ book) different =
    let later = same_later x book book (λ k d lt. different 0 (suc k) d (omega arith) (omega arith)) in
    let rest = found_by_texts book (λ i j d before below. different (suc i) (suc j) d (omega arith) (omega arith)) in
    rw (text_refl x.text, later) (ap (λ (ts : List Token). x ∷ ts) rest)

pub gathered_latest : LatestAreGathered
gathered_latest tokens =
    let texts : texts_of (gathered tokens) ≡ each_once (texts_of tokens) = fold_texts tokens [] ∙ nothing_before (each_once (texts_of tokens)) in
    let each : (text : List ℕ) → token_of text (gathered tokens) ≡ last_with_text text tokens = λ text. fold_token text tokens [] ∙ or_none (last_with_text text tokens) in
    sym (found_by_texts (gathered tokens) (stays_different tokens [] nothing_differs))
    ∙ ap (filter_map (λ text. token_of text (gathered tokens))) texts ∙ map_same (λ text. token_of text (gathered tokens)) (λ text. last_with_text text tokens) each (each_once (texts_of tokens))

pub latest_read : LatestAreRead
unfolding book_of
latest_read value entries tokens book at_key are is =
    let whole : within_limit (gathered tokens) ≡ Ok book = rw (at_key, are) at is in
    by (nat_lt 1024 (length (gathered tokens))) whole ∙ gathered_latest tokens
  where
    by : (b : Bool) → (if b then Err (TooMany (length (gathered tokens))) else Ok (gathered tokens)) ≡ Ok book → book ≡ gathered tokens
    by true is = absurd (cc)
    by false is = cc
