-- A number read from a tag is the number of that tag, and each number below 2 ^ 64 is read back from its tag.
use Rattle.std.proofs.Common.{◌≡◌, ℕ, ◌+◌, ◌-◌, ◌<◌, ◌^◌, List, [], ◌∷◌, ◌++◌, length, take, drop, decimal, Bool, true, false, cond, Option, Some, None, option_and_then, refl, sym, ap, ◌∙◌, arith, append-nil, length-append}
use Rattle.std.proofs.Math.Seq.{drop-append_seam, take-append_seam}
use Rattle.std.proofs.lemmas.Fmt.{IsAscii-decimal}
use Rattle.std.proofs.lemmas.Slice.Eq.{bytes_eq-Decides}
use Rattle.std.proofs.lemmas.Str.{IsUtf8-from_ascii}
use Rattle.std.specs.Cmp.Lexicographic.{same_text}
use Rattle.std.specs.Option.{option_map}
use Rattle.std.specs.Str.{bytes_eq}
use Rattle.json.proofs.Printed.Decimals.{IsNumber-decimal}
use Rattle.json.proofs.Printed.Tokens.{tokens-print}
use Rattle.json.proofs.Printed.Trees.{value-json_tokens}
use Rattle.json.specs.Json as json
use Rattle.json.specs.Lex.{tokens}
use Rattle.json.specs.Print.{print_from, ArePrintable}
use Rattle.json.specs.Token.{Token}
use Rattle.serde_json.proofs.Numbers.{number_of-decimal}
use Rattle.serde_json.specs.Read.{read, of_json, max_depth}
use Rattle.unl_documents.proofs.Spelled.{spelled as spelled_json}
use Rattle.serde_json.specs.Data.{number, unsigned}
use Rattle.serde_json.specs.Find.{as_number, as_u64}
use Rattle.unl_core.specs.declared.board.Board.{Board}
use Rattle.unl_core.specs.Laws.{TagIsOfItsNumber, TagIsRead}
use Rattle.unl_core.specs.Tag.{number_of_tag, if_spelled, tag_prefix, tag_text, whole_in, number_part}

-- The tag of a number in an epoch.
abbrev tag : Board → ℕ → ℕ → ℕ → List ℕ
tag board place epoch n = tag_text board place (record { epoch = epoch; number = n })

-- ---- if a number is read from a tag, the tag is the tag of that number

some_same : (m n : ℕ) → ◌≡◌ {A = Option ℕ} (Some m) (Some n) → m ≡ n
some_same m n h = cc

spelled : (board : Board) (place epoch : ℕ) (text : List ℕ) (m n : ℕ) (b : Bool) → b ≡ bytes_eq text (tag board place epoch m) → cond b (Some m) None ≡ Some n → text ≡ tag board place epoch n
spelled board place epoch text m n true is h = same_text text (tag board place epoch m) is ∙ ap (tag board place epoch) (some_same m n h)
spelled board place epoch text m n false is h = absurd (cc)

by_whole : (board : Board) (place epoch : ℕ) (text : List ℕ) (n : ℕ) (o : Option ℕ) → option_and_then (if_spelled board place epoch text) o ≡ Some n → text ≡ tag board place epoch n
by_whole board place epoch text n None h = absurd (cc)
by_whole board place epoch text n (Some m) h = spelled board place epoch text m n (bytes_eq text (tag board place epoch m)) refl h

pub tag_is : TagIsOfItsNumber
unfolding number_of_tag
tag_is board place epoch text n h = by_whole board place epoch text n (whole_in (number_part (length (tag_prefix board place epoch)) text)) h

-- ---- the number of a tag is read back from it

tokens_are : (n : ℕ) → n < 2 ^ 64 → tokens (decimal n) ≡ Token.number (decimal n) ∷ []
unfolding print_from ArePrintable
tokens_are n small = ap tokens (sym (append-nil (decimal n))) ∙ tokens-print (Token.number (decimal n) ∷ []) (IsNumber-decimal n small, tt)

read_is : (n : ℕ) → n < 2 ^ 64 → read (decimal n) ≡ Some (number (unsigned n))
read_is n small =
    let whole : json.value max_depth (Token.number (decimal n) ∷ []) ≡ Some (json.number (decimal n), []) = value-json_tokens (json.number (decimal n)) max_depth [] (omega arith) in
    ap (λ ts. option_and_then of_json (option_and_then (λ p. json.if_last p.0 p.1) (json.value max_depth ts))) (tokens_are n small)
    ∙ ap (λ o. option_and_then of_json (option_and_then (λ p. json.if_last p.0 p.1) o)) whole
    ∙ ap (option_map number) (number_of-decimal n small)

whole_is : (n : ℕ) → n < 2 ^ 64 → whole_in (decimal n) ≡ Some n
whole_is n small =
    ap (λ o. option_and_then as_u64 (option_and_then as_number o))
    (spelled_json (decimal n) (number (unsigned n)) (IsUtf8-from_ascii (decimal n) (IsAscii-decimal n small)) (read_is n small))

part_is : (prefix digits : List ℕ) (quote : ℕ) → number_part (length prefix) (prefix ++ (digits ++ quote ∷ [])) ≡ digits
part_is prefix digits quote =
    let count : length (prefix ++ (digits ++ quote ∷ [])) - (length prefix + 1) ≡ length digits =
    omega (arith, length-append prefix (digits ++ quote ∷ []), length-append digits (quote ∷ [])) in
    ap (λ k. take k (drop (length prefix) (prefix ++ (digits ++ quote ∷ [])))) count
    ∙ ap (take (length digits)) (drop-append_seam prefix (digits ++ quote ∷ []))
    ∙ take-append_seam digits (quote ∷ [])

itself : (text : List ℕ) → bytes_eq text text ≡ true
itself text = (bytes_eq-Decides text text).1 refl

pub is_read : TagIsRead
unfolding number_of_tag
is_read board place epoch n small =
    ap (λ digits. option_and_then (if_spelled board place epoch (tag board place epoch n)) (whole_in digits)) (part_is (tag_prefix board place epoch) (decimal n) 34)
    ∙ ap (option_and_then (if_spelled board place epoch (tag board place epoch n))) (whole_is n small)
    ∙ ap (λ b. cond b (Some n) None) (itself (tag board place epoch n))
