-- Properties of arguments that are in their ranges: addresses and tokens fit in a header line, and the environments of the tokens differ.
use Rattle.std.proofs.Common.{◌≡◌, ◌<◌, ◌≤◌, ◌+◌, ◌==◌, ◌&&◌, ◌||◌, ◌∙◌, ℕ, zero, suc, Bool, true, false, cond, not, List, [], ◌∷◌, drop, take, length, map, Option, Some, None, Err, refl, ap, subst, arith, nat_le, nat_lt}
use Rattle.std.specs.Prelude.{All, IsTrue, is_ok, option_map, slice_index, unwrap_or}
use Rattle.std.specs.Char.{is_ascii_digit}
use Rattle.std.specs.List.{list_all}
use Rattle.std.specs.Option.{option_map_or}
use Rattle.std.specs.Path.{rfind_below, rsplit_once}
use Rattle.std.specs.Str.Parse.{digits_value}
use Rattle.std.proofs.lemmas.Bool.Decides.{nat_tests}
use Rattle.std.proofs.lemmas.List.{length-map}
use Rattle.std.proofs.lemmas.List.Elements.{All-cons, All-nil}
use Rattle.clap.proofs.WalkLemmas.{both}
use Rattle.unl_core.specs.Board.{AreDifferent, empty_slot}
use Rattle.unl_core.specs.DeskStates.{place_at}
use Rattle.unl_documents.specs.Texts.{has_bytes}
use Rattle.unl_http_api.specs.RequestText.{fits_line}
use Rattle.unl_tokens.specs.Scopes.{scope_of}
use Rattle.unl_words.specs.Lists.{are_different, are_upstream_tokens, environment_of, has_count, is_named, is_token}
use Rattle.unl_words.specs.Values.{is_line_byte, is_address, is_line, is_number, is_port, is_secret, number_within, within}
use Rattle.unl_words.specs.declared.refusal.WordsRefusal.TheVariants.{Bad}
use Rattle.unl_words.proofs.Known.{counted, others_differ}

-- ---- texts

-- a byte other than NUL, line feed and carriage return fits in a line
byte_fits : (nul feed return : Bool) → (not return && (not feed && not nul)) ≡ true → not (nul || feed || return) ≡ true
byte_fits true feed true is = absurd (cc is)
byte_fits true true false is = absurd (cc is)
byte_fits true false false is = absurd (cc is)
byte_fits false true true is = absurd (cc is)
byte_fits false true false is = absurd (cc is)
byte_fits false false true is = absurd (cc is)
byte_fits false false false is = refl

-- a text of such bytes fits in a line
pub line_fits : (text : List ℕ) → is_line text ≡ true → IsTrue (fits_line text)
line_fits [] is = refl
line_fits (byte ∷ text) is =
    let parts = both (is_line_byte byte) (is_line text) is in
    rw (byte_fits (byte == 0) (byte == 10) (byte == 13) parts.0, line_fits text parts.1) refl

-- a token fits in a line
pub token_fits : (text : List ℕ) → is_token true text ≡ true → IsTrue (fits_line text)
token_fits text is =
    let parts = both (nat_le (length text) 512) (is_line text && is_named true (scope_of text)) is in
    line_fits text (both (is_line text) (is_named true (scope_of text)) parts.1).0

-- ---- an address

-- a digit is neither a line end nor NUL
digit_is_line_byte : (byte : ℕ) → is_ascii_digit byte ≡ true → is_line_byte byte ≡ true
digit_is_line_byte byte is = grind (arith, nat_tests)

digits_are_line : (text : List ℕ) → list_all is_ascii_digit text ≡ true → is_line text ≡ true
digits_are_line [] are = refl
digits_are_line (byte ∷ text) are =
    let parts = both (is_ascii_digit byte) (list_all is_ascii_digit text) are in
    rw (digit_is_line_byte byte parts.0, digits_are_line text parts.1) refl

-- a port consists of digits, so it has neither a line end nor NUL
port_is_line : (text : List ℕ) → is_port text ≡ true → is_line text ≡ true
unfolding number_within
port_is_line text is = by_number (is_number text) refl is
  where
    by_number : (number : Bool) → is_number text ≡ number → is_ok (cond number (within 1 65535 (digits_value 10 text)) (Err Bad)) ≡ true → is_line text ≡ true
    by_number true same is = digits_are_line text (both (nat_lt 0 (length text)) (list_all is_ascii_digit text) same).1
    by_number false same is = absurd (cc is)

-- a text is a line if the parts before and after a place are, and the byte there is no line end or NUL
line_around : (text : List ℕ) (place : ℕ) → place < length text → is_line_byte (slice_index text place) ≡ true → is_line (take place text) ≡ true
    → is_line (drop (suc place) text) ≡ true → is_line text ≡ true
line_around [] place inside here before after = refl
line_around (byte ∷ text) zero inside here before after = rw (here, after) refl
line_around (byte ∷ text) (suc place) inside here before after =
    let parts = both (is_line_byte byte) (is_line (take place text)) before in
    rw (parts.0, line_around text place (omega (arith, inside)) here parts.1 after) refl

-- `place` has this byte and is below the bound `most`
record IsFound (byte : ℕ) (text : List ℕ) (most place : ℕ) : Type 0 where
  below : place < most
  here : slice_index text place ≡ byte

found_below : (byte : ℕ) (text : List ℕ) (most place : ℕ) → rfind_below byte text most ≡ Some place → IsFound byte text most place
found_below byte text zero place is = absurd (cc is)
found_below byte text (suc most) place is = by_test (found_below byte text most place) (slice_index text most == byte) refl is
  where
    by_test : (rfind_below byte text most ≡ Some place → IsFound byte text most place) → (same : Bool) → (slice_index text most == byte) ≡ same
        → cond same (Some most) (rfind_below byte text most) ≡ Some place → IsFound byte text (suc most) place
    by_test before true same is =
        let here : most ≡ place = ap (λ found. unwrap_or found 0) is in
        subst (IsFound byte text (suc most)) here (record { below = omega arith; here = grind (arith, nat_tests) })
    by_test before false same is =
        let found = before is in
        record { below = omega (arith, found.below); here = found.here }

-- an address fits in a line
pub address_fits : (text : List ℕ) → is_address text ≡ true → IsTrue (fits_line text)
unfolding is_address rsplit_once
address_fits text is = by_place (rfind_below 58 text (length text)) refl is
  where
    by_place : (found : Option ℕ) → rfind_below 58 text (length text) ≡ found
        → option_map_or (λ (sides : List ℕ × List ℕ). is_secret sides.0 && is_port sides.1) (option_map (λ i. (take i text, drop (i + 1) text)) found) false ≡ true
        → IsTrue (fits_line text)
    by_place None same is = absurd (cc is)
    by_place (Some place) same is =
        let found = found_below 58 text (length text) place same in
        let parts = both (is_secret (take place text)) (is_port (drop (place + 1) text)) is in
        let name = both (has_bytes (take place text)) (is_line (take place text)) parts.0 in
        let next : place + 1 ≡ suc place = omega arith in
        line_fits text (line_around text place found.below (rw found.here refl) name.1
        (subst (λ n. is_line (drop n text) ≡ true) next (port_is_line (drop (place + 1) text) parts.1)))

-- ---- lists of tokens

-- each of a list of tokens fits in a line
all_fit : (tokens : List (List ℕ)) → list_all (is_token true) tokens ≡ true → All (λ token. IsTrue (fits_line token)) tokens
all_fit [] are = All-nil (λ (token : List ℕ). IsTrue (fits_line token))
all_fit (token ∷ tokens) are =
    let parts = both (is_token true token) (list_all (is_token true) tokens) are in
    All-cons (λ (t : List ℕ). IsTrue (fits_line t)) token tokens (token_fits token parts.0) (all_fit tokens parts.1)

-- there are at most eight tokens for the upstream
pub few_tokens : (tokens : List (List ℕ)) → are_upstream_tokens tokens ≡ true → length tokens ≤ 8
few_tokens tokens are = (counted 1 8 tokens (both (has_count 1 8 tokens) (list_all (is_token true) tokens && are_different (map environment_of tokens)) are).0).1

-- each of the tokens for the upstream fits in a line
pub tokens_fit : (tokens : List (List ℕ)) → are_upstream_tokens tokens ≡ true → All (λ token. IsTrue (fits_line token)) tokens
tokens_fit tokens are =
    let parts = both (has_count 1 8 tokens) (list_all (is_token true) tokens && are_different (map environment_of tokens)) are in
    all_fit tokens (both (list_all (is_token true) tokens) (are_different (map environment_of tokens)) parts.1).0

-- the names in a list without duplicates differ
pub texts_differ : (texts : List (List ℕ)) → are_different texts ≡ true → AreDifferent texts
texts_differ [] are = tt
texts_differ (text ∷ texts) are = let parts = others_differ text texts are in (parts.0, texts_differ texts parts.1)

-- the environments of the tokens for the upstream differ
pub names_differ : (tokens : List (List ℕ)) → are_upstream_tokens tokens ≡ true → AreDifferent (map environment_of tokens)
names_differ tokens are =
    let parts = both (has_count 1 8 tokens) (list_all (is_token true) tokens && are_different (map environment_of tokens)) are in
    texts_differ (map environment_of tokens) (both (list_all (is_token true) tokens) (are_different (map environment_of tokens)) parts.1).1

-- a board with an empty slot for each of these tokens has as many places as there are tokens
pub opened_places : (tokens : List (List ℕ)) → length (map place_at (map empty_slot (map environment_of tokens))) ≡ length tokens
opened_places tokens =
    length-map (map empty_slot (map environment_of tokens)) place_at ∙ length-map (map environment_of tokens) empty_slot ∙ length-map tokens environment_of
