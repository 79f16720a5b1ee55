-- Lemmas about the part of a request that is logged.
use Rattle.std.proofs.Common.{◌≡◌, ◌∙◌, ◌≤◌, ◌<◌, ◌+◌, ◌-◌, ℕ, zero, suc, Bool, true}
use Rattle.std.proofs.Common.{false, not, ◌&&◌, List, [], ◌∷◌, ◌++◌, All, length, take, drop}
use Rattle.std.proofs.Common.{get_or, min, nat_eq, nat_le, nat_lt, filter, if◌then◌else◌, refl, sym, ap, arith, rules}
use Rattle.std.proofs.Math.Seq.{take-suc}
use Rattle.std.proofs.lemmas.Bool.{false≢true}
use Rattle.std.proofs.lemmas.List.{length-append, length-take, take-append-drop, take-take, take_all, take_min}
use Rattle.std.proofs.lemmas.List.Elements.{All-cons, All-head, All-nil, All-tail, filter-append}
use Rattle.std.proofs.lemmas.List.Folds.{list_all-append}
use Rattle.std.proofs.lemmas.Str.{IsUtf8-from_ascii}
use Rattle.std.proofs.lemmas.Str.Ascii.{IsAscii-from_all}
use Rattle.std.specs.List.{list_all}
use Rattle.std.specs.Str.{IsUtf8}
use Rattle.unl_net.specs.LoggedText.{is_loggable, longest_prefix, may_be_logged, spaces_in, logged_text}

-- a byte is a space
abbrev is_space : ℕ → Bool
is_space byte = nat_eq byte 32

-- the spaces of two joined pieces
spaces_of_both : (a b : List ℕ) → spaces_in (a ++ b) ≡ spaces_in a + spaces_in b
spaces_of_both a b = ap length (filter-append is_space a b) ∙ length-append (filter is_space a) (filter is_space b)

-- a prefix of bytes that may be logged may be logged too
prefix_may : (a b : List ℕ) → may_be_logged (a ++ b) ≡ true → may_be_logged a ≡ true
prefix_may a b logged =
    by (list_all is_loggable a) (list_all is_loggable b) (spaces_in a) (spaces_in b)
    (sym (λ i. list_all-append is_loggable a b i && nat_le (spaces_of_both a b i) 1) ∙ logged)
  where
    by : (first second : Bool) (spaces more : ℕ) → ((first && second) && nat_le (spaces + more) 1) ≡ true
        → (first && nat_le spaces 1) ≡ true
    by true true spaces more logged = search arith
    by true false spaces more logged = search arith
    by false second spaces more logged = search arith

-- the spaces in one byte
spaces_of_one : (byte : ℕ) → spaces_in (byte ∷ []) ≡ (if nat_eq byte 32 then 1 else 0)
spaces_of_one byte = by (nat_eq byte 32) refl
  where
    by : (space : Bool) → nat_eq byte 32 ≡ space → spaces_in (byte ∷ []) ≡ (if space then 1 else 0)
    by true is = search rules
    by false is = search rules

-- a prefix that may be logged, extended by the next byte, may be logged exactly if that byte may be logged and is no second space
pub one_more : (prefix : List ℕ) (at : ℕ) (has_method : Bool) → at < length prefix → may_be_logged (take at prefix) ≡ true
    → has_method ≡ nat_lt 0 (spaces_in (take at prefix))
    → may_be_logged (take (at + 1) prefix) ≡ (is_loggable (get_or prefix at 0) && not (has_method && nat_eq (get_or prefix at 0) 32))
one_more prefix at has_method inside logged spaces =
    let next : at + 1 ≡ suc at = search arith in
    ap (λ n. may_be_logged (take n prefix)) next ∙ ap may_be_logged (take-suc prefix at 0 inside)
    ∙ (λ i. list_all-append is_loggable (take at prefix) (get_or prefix at 0 ∷ []) i
    && nat_le (spaces_of_both (take at prefix) (get_or prefix at 0 ∷ []) i) 1)
    ∙ ap (λ n. (list_all is_loggable (take at prefix) && (is_loggable (get_or prefix at 0) && true))
    && nat_le (spaces_in (take at prefix) + n) 1) (spaces_of_one (get_or prefix at 0))
    ∙ by (list_all is_loggable (take at prefix)) (is_loggable (get_or prefix at 0)) (nat_eq (get_or prefix at 0) 32)
    (spaces_in (take at prefix)) logged spaces
  where
    by : (all seen space : Bool) (count : ℕ) → (all && nat_le count 1) ≡ true → has_method ≡ nat_lt 0 count
        → ((all && (seen && true)) && nat_le (count + (if space then 1 else 0)) 1) ≡ (seen && not (has_method && space))
    by true true true count logged is = search arith
    by true true false count logged is = search arith
    by true false space count logged is = search arith
    by false seen space count logged is = search arith

-- the longest prefix of at most `n` bytes has `n` bytes if the first `n` bytes may be logged
whole : (n : ℕ) (bytes : List ℕ) → may_be_logged (take n bytes) ≡ true → longest_prefix n bytes ≡ n
unfolding longest_prefix
whole zero bytes logged = refl
whole (suc n) bytes logged = rw logged refl

-- the longest prefix is at most as long as its limit
within : (n : ℕ) (bytes : List ℕ) → longest_prefix n bytes ≤ n
unfolding longest_prefix
within zero bytes = search arith
within (suc n) bytes = by (may_be_logged (take (suc n) bytes)) (within n bytes)
  where
    by : (may : Bool) → longest_prefix n bytes ≤ n → (if may then suc n else longest_prefix n bytes) ≤ suc n
    by true below = search arith
    by false below = search arith

-- the longest prefix may be logged
may : (n : ℕ) (bytes : List ℕ) → may_be_logged (take (longest_prefix n bytes) bytes) ≡ true
unfolding longest_prefix
may zero bytes = refl
may (suc n) bytes = by (may_be_logged (take (suc n) bytes)) refl (may n bytes)
  where
    by : (logged : Bool) → may_be_logged (take (suc n) bytes) ≡ logged → may_be_logged (take (longest_prefix n bytes) bytes) ≡ true
        → may_be_logged (take (if logged then suc n else longest_prefix n bytes) bytes) ≡ true
    by true is behind = is
    by false is behind = behind

-- a prefix that may be logged is the longest if no longer one may be
longest : (n at : ℕ) (bytes : List ℕ) → at ≤ n → may_be_logged (take at bytes) ≡ true
    → ((k : ℕ) → at < k → may_be_logged (take k bytes) ≡ false)
    → longest_prefix n bytes ≡ at
unfolding longest_prefix
longest zero at bytes below logged none = search arith
longest (suc n) at bytes below logged none = by (nat_lt at (suc n)) refl (λ inside. longest n at bytes inside logged none)
  where
    by : (less : Bool) → nat_lt at (suc n) ≡ less → (at ≤ n → longest_prefix n bytes ≡ at)
        → (if may_be_logged (take (suc n) bytes) then suc n else longest_prefix n bytes) ≡ at
    by true is behind = rw (none (suc n) (search arith)) (behind (search arith))
    by false is behind =
        let same : suc n ≡ at = search arith in
        rw (ap (λ k. may_be_logged (take k bytes)) same ∙ logged) same

-- if a prefix may not be logged, no longer one may
none_longer : (prefix : List ℕ) (at : ℕ) → may_be_logged (take (at + 1) prefix) ≡ false → (k : ℕ) → at < k
    → may_be_logged (take k prefix) ≡ false
none_longer prefix at stops k longer = by (may_be_logged (take k prefix)) refl
  where
    by : (logged : Bool) → may_be_logged (take k prefix) ≡ logged → logged ≡ false
    by false is = refl
    by true is =
        let more : at + 1 ≤ k = search arith in
        let cut : may_be_logged (take (at + 1) (take k prefix)) ≡ true
        = prefix_may (take (at + 1) (take k prefix)) (drop (at + 1) (take k prefix))
        (ap may_be_logged (take-append-drop (at + 1) (take k prefix)) ∙ is) in
        sym cut ∙ ap may_be_logged (take-take (at + 1) k prefix more) ∙ stops

-- the bytes before the next one are the longest prefix if the next one may not be logged or is a second space
pub no_more : (prefix : List ℕ) (at : ℕ) (has_method : Bool) → at < length prefix → may_be_logged (take at prefix) ≡ true
    → has_method ≡ nat_lt 0 (spaces_in (take at prefix))
    → (is_loggable (get_or prefix at 0) && not (has_method && nat_eq (get_or prefix at 0) 32)) ≡ false
    → at ≡ longest_prefix (length prefix) prefix
no_more prefix at has_method inside logged spaces stops =
    sym (longest (length prefix) at prefix (search arith) logged
    (none_longer prefix at (one_more prefix at has_method inside logged spaces ∙ stops)))

-- the bytes so far are the longest prefix if no byte is left
pub none_left : (prefix : List ℕ) (at : ℕ) → length prefix ≤ at → at ≤ length prefix → may_be_logged (take at prefix) ≡ true
    → length prefix ≡ longest_prefix (length prefix) prefix
none_left prefix at past inside logged =
    let here : at ≡ length prefix = search arith in
    sym (whole (length prefix) prefix (ap (λ n. may_be_logged (take n prefix)) (sym here) ∙ logged))

-- the longest prefix of at most `n` bytes is found in the first `m` bytes, if `n` is at most `m`
same_on_prefix : (n m : ℕ) (bytes : List ℕ) → n ≤ m → longest_prefix n (take m bytes) ≡ longest_prefix n bytes
unfolding longest_prefix
same_on_prefix zero m bytes below = refl
same_on_prefix (suc n) m bytes below =
    λ i. if may_be_logged (take-take (suc n) m bytes below i) then suc n else same_on_prefix n m bytes (search arith) i

-- a limit past the end of the bytes changes nothing
past : (more : ℕ) (bytes : List ℕ) → take (longest_prefix (length bytes + more) bytes) bytes
    ≡ take (longest_prefix (length bytes) bytes) bytes
unfolding longest_prefix
past zero bytes = ap (λ n. take (longest_prefix n bytes) bytes) none
  where
    none : length bytes + 0 ≡ length bytes
    none = search arith
past (suc more) bytes = ap (λ n. take (longest_prefix n bytes) bytes) next ∙ by (may_be_logged bytes) refl (past more bytes)
  where
    next : length bytes + suc more ≡ suc (length bytes + more)
    next = search arith

    all : take (suc (length bytes + more)) bytes ≡ bytes
    all = take_all (suc (length bytes + more)) bytes (search arith)

    each : take (length bytes) bytes ≡ bytes
    each = take_all (length bytes) bytes (search arith)

    by : (logged : Bool) → may_be_logged bytes ≡ logged
        → take (longest_prefix (length bytes + more) bytes) bytes ≡ take (longest_prefix (length bytes) bytes) bytes
        → take (if may_be_logged (take (suc (length bytes + more)) bytes)
        then suc (length bytes + more) else longest_prefix (length bytes + more) bytes) bytes
        ≡ take (longest_prefix (length bytes) bytes) bytes
    by true is behind =
        rw (ap may_be_logged all ∙ is) (all ∙ sym each
        ∙ ap (λ n. take n bytes) (sym (whole (length bytes) bytes (ap may_be_logged each ∙ is))))
    by false is behind = rw (ap may_be_logged all ∙ is) behind

-- the logged part of a request is that of its first 64 bytes
pub same_text : (request : List ℕ)
    → take (longest_prefix (length (take (min 64 (length request)) request)) (take (min 64 (length request)) request)) request
    ≡ logged_text request
same_text request = ap (λ prefix. take (longest_prefix (length prefix) prefix) request) (take_min 64 request)
    ∙ by (nat_le (length request) 64) refl
  where
    by : (short : Bool) → nat_le (length request) 64 ≡ short
        → take (longest_prefix (length (take 64 request)) (take 64 request)) request ≡ logged_text request
    by true is =
        let below : length request ≤ 64 = search arith in
        let rest : length request + (64 - length request) ≡ 64 = search arith in
        ap (λ prefix. take (longest_prefix (length prefix) prefix) request) (take_all 64 request below)
        ∙ sym (past (64 - length request) request) ∙ ap (λ n. take (longest_prefix n request) request) rest
    by false is =
        let size : length (take 64 request) ≡ min 64 (length request) = length-take 64 request in
        let full : length (take 64 request) ≡ 64 = search arith in
        ap (λ n. take (longest_prefix n (take 64 request)) request) full
        ∙ ap (λ n. take n request) (same_on_prefix 64 64 request (search arith))

-- of the first `most` bytes, at most `most` are logged
pub cut_short : (most : ℕ) (request : List ℕ) → longest_prefix (length (take most request)) (take most request) ≤ most
cut_short most request =
    let below : longest_prefix (length (take most request)) (take most request) ≤ length (take most request)
    = within (length (take most request)) (take most request) in
    let size : length (take most request) ≡ min most (length request) = length-take most request in
    search arith

-- if a text may be logged, each of its bytes may be logged
each_may : (bytes : List ℕ) → list_all is_loggable bytes ≡ true → All (λ byte. is_loggable byte ≡ true) bytes
each_may [] logged = All-nil (λ byte. is_loggable byte ≡ true)
each_may (byte ∷ rest) logged = by (is_loggable byte) refl logged (each_may rest)
  where
    by : (first : Bool) → is_loggable byte ≡ first → (first && list_all is_loggable rest) ≡ true
        → (list_all is_loggable rest ≡ true → All (λ one. is_loggable one ≡ true) rest) → All (λ one. is_loggable one ≡ true) (byte ∷ rest)
    by true is others behind = All-cons (λ one. is_loggable one ≡ true) byte rest is (behind others)
    by false is others behind = absurd (false≢true others)

-- each byte of the logged part of a request may be logged
pub cut_logged : (most : ℕ) (request : List ℕ)
    → All (λ byte. is_loggable byte ≡ true) (take (longest_prefix (length (take most request)) (take most request)) request)
cut_logged most request =
    rw (sym (take-take (longest_prefix (length (take most request)) (take most request)) most request (cut_short most request)))
    (each_may (take (longest_prefix (length (take most request)) (take most request)) (take most request))
    (first (list_all is_loggable (take (longest_prefix (length (take most request)) (take most request)) (take most request)))
    (nat_le (spaces_in (take (longest_prefix (length (take most request)) (take most request)) (take most request))) 1)
    (may (length (take most request)) (take most request))))
  where
    first : (all few : Bool) → (all && few) ≡ true → all ≡ true
    first true few both = refl
    first false few both = absurd (false≢true both)

-- bytes that may be logged are UTF-8
pub is_text : (bytes : List ℕ) → All (λ byte. is_loggable byte ≡ true) bytes → IsUtf8 bytes
is_text bytes logged = IsUtf8-from_ascii bytes (IsAscii-from_all bytes (ascii bytes logged))
  where
    below : (byte : ℕ) → is_loggable byte ≡ true → byte < 128
    below byte logged = search arith

    ascii : (bytes : List ℕ) → All (λ byte. is_loggable byte ≡ true) bytes → All (λ byte. byte < 128) bytes
    ascii [] logged = All-nil (λ byte. byte < 128)
    ascii (byte ∷ rest) logged =
        All-cons (λ byte. byte < 128) byte rest (below byte (All-head (λ byte. is_loggable byte ≡ true) byte rest logged))
        (ascii rest (All-tail (λ byte. is_loggable byte ≡ true) byte rest logged))
