-- A request that the client side of this crate writes is read by the server side.
use Rattle.std.proofs.Common.{◌≡◌, ◌≢◌, ℕ, ◌<◌, ◌≤◌, true, false, List, [], ◌∷◌, ◌++◌, length, map, reverse, refl, sym, ap, ◌∙◌, arith, append_assoc, append-nil, length-append, Option, Some, None, codes}
use Rattle.std.proofs.lemmas.Bool.Decides.{nat_tests}
use Rattle.std.proofs.lemmas.Fmt.{decimal_is_IsNumeral, length-decimal-le}
use Rattle.std.proofs.lemmas.List.Elements.{All-nil, All-cons, All-head, All-weaker}
use Rattle.std.proofs.lemmas.List.Sums.{AllPass-from_list_all, list_all-from_AllPass}
use Rattle.std.proofs.lemmas.Str.Parse.{digit_at}
use Rattle.std.specs.Prelude.{All, IfSome, nat_lt, nat_le, unwrap_or}
use Rattle.std.specs.Char.{is_ascii_digit}
use Rattle.std.specs.Fmt.{decimal}
use Rattle.std.specs.List.{flat_map, list_all}
use Rattle.std.specs.Option.{option_map_or}
use Rattle.std.specs.Str.Parse.{AllDigits, digits_value}
use Rattle.httparse.specs.Grammar.{AllPass, crlf, Field, IsField, IsToken, is_ows, is_token_byte, is_value_byte, print_field, print_version, RequestHead, print_request, skip_ows, trim_ows}
use Rattle.httparse.specs.Spans.{name_and_value}
use Rattle.httparse.proofs.GrammarLemmas.{cons-append, print_request-append}
use Rattle.httparse.proofs.TrimLemmas.{AllPass-reverse, trim_ows_space}
use Rattle.unl_documents.specs.Texts.{trimmed}
use Rattle.unl_http_api.specs.declared.request.Method.{Method}
use Rattle.unl_http_api.specs.declared.request.Method.TheVariants.{Get, Post, Other}
use Rattle.unl_http_api.specs.Fields.{body_length, fault_of, plain_number}
use Rattle.unl_http_api.specs.Reply.{header}
use Rattle.unl_http_api.specs.Requests.{IsRequest, request_with}
use Rattle.unl_http_api.specs.RequestText.{body_headers, method_name, request_text, CanBeRead, request_read}

-- ---- the written head

-- a field whose value is preceded by a space
abbrev field : List ℕ → List ℕ → Field
field name value = record { name = name; raw = 32 ∷ value; end = crlf }

-- an optional field before the others
abbrev with_field : List ℕ → Option (List ℕ) → List Field → List Field
with_field name None fields = fields
with_field name (Some value) fields = field name value ∷ fields

-- the fields for the body before the others
abbrev with_body : Method → List ℕ → List Field → List Field
with_body Get digits fields = fields
with_body Post digits fields =
    field (codes "Content-Type") (codes "application/json") ∷ field (codes "Content-Length") digits ∷ fields
with_body Other digits fields = fields

abbrev written_fields : Method → List ℕ → Option (List ℕ) → Option (List ℕ) → List ℕ → List Field
written_fields method host token tag digits =
    field (codes "Host") host
    ∷ with_field (codes "Authorization") token (with_field (codes "If-None-Match") tag
    (with_body method digits (field (codes "Connection") (codes "close") ∷ [])))

abbrev written_head : Method → List ℕ → List ℕ → Option (List ℕ) → Option (List ℕ) → List ℕ → RequestHead
written_head method target host token tag digits = record {
  blank = [];
  method = method_name method;
  target = target;
  minor = 0;
  line_end = crlf;
  fields = written_fields method host token tag digits;
  last = crlf;
}

-- ---- its text

print_written : (name value : List ℕ) → print_field (field name value) ≡ header name value
print_written name value = ap (λ text. text ++ 13 ∷ 10 ∷ []) (sym (append_assoc name (58 ∷ 32 ∷ []) value))

print_with_field : (name : List ℕ) (value : Option (List ℕ)) (fields : List Field)
    → flat_map print_field (with_field name value fields) ≡ option_map_or (header name) value [] ++ flat_map print_field fields
print_with_field name None fields = refl
print_with_field name (Some value) fields = ap (λ text. text ++ flat_map print_field fields) (print_written name value)

print_with_body : (method : Method) (body : List ℕ) (fields : List Field)
    → flat_map print_field (with_body method (decimal (length body)) fields)
    ≡ body_headers method body ++ flat_map print_field fields
print_with_body Get body fields = refl
print_with_body Post body fields =
    (λ i. print_written (codes "Content-Type") (codes "application/json") i
    ++ (print_written (codes "Content-Length") (decimal (length body)) i ++ flat_map print_field fields))
    ∙ sym (append_assoc (header (codes "Content-Type") (codes "application/json"))
    (header (codes "Content-Length") (decimal (length body))) (flat_map print_field fields))
print_with_body Other body fields = refl

print_written_fields : (method : Method) (host : List ℕ) (token tag : Option (List ℕ)) (body : List ℕ)
    → flat_map print_field (written_fields method host token tag (decimal (length body)))
    ≡ header (codes "Host") host
    ++ (option_map_or (header (codes "Authorization")) token []
    ++ (option_map_or (header (codes "If-None-Match")) tag []
    ++ (body_headers method body ++ header (codes "Connection") (codes "close"))))
print_written_fields method host token tag body =
    let last : List Field = field (codes "Connection") (codes "close") ∷ [] in
    let digits = decimal (length body) in
    (λ i. print_written (codes "Host") host i
    ++ print_with_field (codes "Authorization") token (with_field (codes "If-None-Match") tag (with_body method digits last)) i)
    ∙ ap (λ text. header (codes "Host") host ++ (option_map_or (header (codes "Authorization")) token [] ++ text))
    (print_with_field (codes "If-None-Match") tag (with_body method digits last)
    ∙ ap (λ text. option_map_or (header (codes "If-None-Match")) tag [] ++ text)
    (print_with_body method body last
    ∙ ap (λ text. body_headers method body ++ text)
    (append-nil (print_field (field (codes "Connection") (codes "close")))
    ∙ print_written (codes "Connection") (codes "close"))))

-- the written head followed by the body is the text of the request
print_head : (method : Method) (target host : List ℕ) (token tag : Option (List ℕ)) (body : List ℕ)
    → request_text method target host token tag body
    ≡ print_request (written_head method target host token tag (decimal (length body))) ++ body
unfolding request_text
print_head method target host token tag body =
    let head = written_head method target host token tag (decimal (length body)) in
    regroup (method_name method) target (print_version 0) (13 ∷ 10 ∷ []) (header (codes "Host") host)
    (option_map_or (header (codes "Authorization")) token []) (option_map_or (header (codes "If-None-Match")) tag [])
    (body_headers method body) (header (codes "Connection") (codes "close")) body
    ∙ ap (λ fields. method_name method ++ 32 ∷ (target ++ 32 ∷ (print_version 0 ++ (13 ∷ 10 ∷ []
    ++ ((fields ++ 13 ∷ 10 ∷ []) ++ body)))))
    (sym (print_written_fields method host token tag body))
    ∙ sym (print_request-append head body)
  where
    regroup : (l t v e h a i b c r : List ℕ)
        → (((((((((l ++ 32 ∷ []) ++ t) ++ 32 ∷ v) ++ e) ++ h) ++ a) ++ i) ++ b) ++ c) ++ e ++ r
        ≡ l ++ 32 ∷ (t ++ 32 ∷ (v ++ (e ++ (((h ++ (a ++ (i ++ (b ++ c)))) ++ e) ++ r))))
    regroup l t v e h a i b c r = simp (append_assoc, cons-append)

-- ---- its parts are valid in the grammar

named : (name value : List ℕ) → IsToken name → AllPass is_value_byte value → IsField (field name value)
named name value token pass = record { name = token; raw = All-cons (λ b. is_value_byte b ≡ true) 32 value refl pass }

token_of : (name : List ℕ) → 0 < length name → list_all is_token_byte name ≡ true → IsToken name
token_of name some all = (some, AllPass-from_list_all is_token_byte name all)

with_field_is : (name : List ℕ) (value : Option (List ℕ)) (fields : List Field) → IsToken name
    → IfSome value (AllPass is_value_byte) → All IsField fields → All IsField (with_field name value fields)
with_field_is name None fields token pass all = all
with_field_is name (Some value) fields token pass all =
    All-cons IsField (field name value) fields (named name value token pass) all

method_token : (method : Method) → method ≢ Other → IsToken (method_name method)
unfolding is_token_byte
method_token Get known = token_of (codes "GET") (omega arith) refl
method_token Post known = token_of (codes "POST") (omega arith) refl
method_token Other known = absurd (known refl)

with_body_is : (method : Method) (digits : List ℕ) (fields : List Field) → AllPass is_value_byte digits
    → All IsField fields → All IsField (with_body method digits fields)
unfolding is_token_byte
with_body_is Get digits fields pass all = all
with_body_is Post digits fields pass all =
    let json = AllPass-from_list_all is_value_byte (codes "application/json") refl in
    let type = field (codes "Content-Type") (codes "application/json") in
    let length = field (codes "Content-Length") digits in
    All-cons IsField type (length ∷ fields)
    (named (codes "Content-Type") (codes "application/json") (token_of (codes "Content-Type") (omega arith) refl) json)
    (All-cons IsField length fields
    (named (codes "Content-Length") digits (token_of (codes "Content-Length") (omega arith) refl) pass) all)
with_body_is Other digits fields pass all = all

written_fields_are : (method : Method) (host : List ℕ) (token tag : Option (List ℕ)) (digits : List ℕ)
    → AllPass is_value_byte host → IfSome token (AllPass is_value_byte) → IfSome tag (AllPass is_value_byte)
    → AllPass is_value_byte digits → All IsField (written_fields method host token tag digits)
unfolding is_token_byte
written_fields_are method host token tag digits host_is token_is tag_is digits_are =
    let close = AllPass-from_list_all is_value_byte (codes "close") refl in
    let last = field (codes "Connection") (codes "close") in
    let from_body = with_body method digits (last ∷ []) in
    let from_tag = with_field (codes "If-None-Match") tag from_body in
    let from_token = with_field (codes "Authorization") token from_tag in
    All-cons IsField (field (codes "Host") host) from_token
    (named (codes "Host") host (token_of (codes "Host") (omega arith) refl) host_is)
    (with_field_is (codes "Authorization") token from_tag (token_of (codes "Authorization") (omega arith) refl) token_is
    (with_field_is (codes "If-None-Match") tag from_body (token_of (codes "If-None-Match") (omega arith) refl) tag_is
    (with_body_is method digits (last ∷ []) digits_are
    (All-cons IsField last []
    (named (codes "Connection") (codes "close") (token_of (codes "Connection") (omega arith) refl) close)
    (All-nil IsField)))))

-- ---- the stated length of the body

-- a digit is a value byte and not white space
digit_is_value : (b : ℕ) → is_ascii_digit b ≡ true → is_value_byte b ≡ true
digit_is_value b is = grind (arith, nat_tests)

digit_no_ows : (b : ℕ) → is_ascii_digit b ≡ true → is_ows b ≡ false
digit_no_ows b is = grind (arith, nat_tests)

in_range : (b : ℕ) → 48 ≤ b → b ≤ 57 → is_ascii_digit b ≡ true
in_range b above below = grind (arith, nat_tests)

digits_pass : (ds : List ℕ) → AllDigits 10 ds → AllPass is_ascii_digit ds
digits_pass [] all = All-nil _
digits_pass (d ∷ ds) all =
    let range = digit_at (d ∷ ds) 0 all (omega arith) in
    All-cons (λ b. is_ascii_digit b ≡ true) d ds (in_range d range.0 range.1) (digits_pass ds all.1)

skip_none : (ds : List ℕ) → AllPass is_ascii_digit ds → skip_ows ds ≡ ds
skip_none [] all = refl
skip_none (d ∷ ds) all = rw (digit_no_ows d (All-head (λ b. is_ascii_digit b ≡ true) d ds all)) refl

trimmed_digits : (ds : List ℕ) → AllPass is_ascii_digit ds → trim_ows (32 ∷ ds) ≡ ds
trimmed_digits ds all = trim_ows_space ds (skip_none ds all) (skip_none (reverse ds) (AllPass-reverse is_ascii_digit ds all))

plain_of : (ds : List ℕ) (n : ℕ) → 0 < length ds → length ds ≤ 19 → list_all is_ascii_digit ds ≡ true
    → digits_value 10 ds ≡ n → plain_number ds ≡ Some n
plain_of ds n some few all value =
    let first : nat_lt 0 (length ds) ≡ true = grind (arith, nat_tests) in
    let second : nat_le (length ds) 19 ≡ true = grind (arith, nat_tests) in
    rw (first, second, all, value) refl

-- the number is read back from its digits
number_read : (n : ℕ) → n ≤ 1048576 → plain_number (trim_ows (32 ∷ decimal n)) ≡ Some n
number_read n fits =
    let numeral = decimal_is_IsNumeral n (omega (arith, fits)) in
    let all = digits_pass (decimal n) numeral.0.1 in
    ap plain_number (trimmed_digits (decimal n) all)
    ∙ plain_of (decimal n) n numeral.0.0 (length-decimal-le 19 n (omega arith) (omega (arith, fits)) (omega (arith, fits)))
    (list_all-from_AllPass is_ascii_digit (decimal n) all) numeral.1

-- ---- what is read back

-- no rule is broken
no_fault : (method : Method) (host : List ℕ) (token tag : Option (List ℕ)) (digits : List ℕ) (n : ℕ)
    → plain_number (trim_ows (32 ∷ digits)) ≡ Some n → nat_lt 1048576 n ≡ false
    → fault_of 0 (map name_and_value (written_fields method host token tag digits)) ≡ None
no_fault Get host None None digits n said fits = refl
no_fault Get host None (Some tag) digits n said fits = refl
no_fault Get host (Some token) None digits n said fits = refl
no_fault Get host (Some token) (Some tag) digits n said fits = refl
no_fault Post host None None digits n said fits = rw (said, fits) refl
no_fault Post host None (Some tag) digits n said fits = rw (said, fits) refl
no_fault Post host (Some token) None digits n said fits = rw (said, fits) refl
no_fault Post host (Some token) (Some tag) digits n said fits = rw (said, fits) refl
no_fault Other host None None digits n said fits = refl
no_fault Other host None (Some tag) digits n said fits = refl
no_fault Other host (Some token) None digits n said fits = refl
no_fault Other host (Some token) (Some tag) digits n said fits = refl

-- the body has the length that a POST states, and a GET has none
length_known : (method : Method) (host : List ℕ) (token tag : Option (List ℕ)) (digits : List ℕ) (n : ℕ) → method ≢ Other
    → plain_number (trim_ows (32 ∷ digits)) ≡ Some n → (method ≡ Get → n ≡ 0)
    → n ≡ unwrap_or (body_length (map name_and_value (written_fields method host token tag digits))) 0
length_known Get host None None digits n known said none = none refl
length_known Get host None (Some tag) digits n known said none = none refl
length_known Get host (Some token) None digits n known said none = none refl
length_known Get host (Some token) (Some tag) digits n known said none = none refl
length_known Post host None None digits n known said none = rw said refl
length_known Post host None (Some tag) digits n known said none = rw said refl
length_known Post host (Some token) None digits n known said none = rw said refl
length_known Post host (Some token) (Some tag) digits n known said none = rw said refl
length_known Other host token tag digits n known said none = absurd (known refl)

-- the request with the method, target, fields and body that were written is `request_read`, which the server is specified to read
parts_read : (method : Method) (target host : List ℕ) (token tag : Option (List ℕ)) (digits body : List ℕ) → method ≢ Other
    → request_read method target token tag body
    ≡ request_with (method_name method) target 0 (map name_and_value (written_fields method host token tag digits)) body
unfolding trim_ows trimmed
parts_read Get target host None None digits body known = refl
parts_read Get target host None (Some tag) digits body known = refl
parts_read Get target host (Some token) None digits body known = refl
parts_read Get target host (Some token) (Some tag) digits body known = refl
parts_read Post target host None None digits body known = refl
parts_read Post target host None (Some tag) digits body known = refl
parts_read Post target host (Some token) None digits body known = refl
parts_read Post target host (Some token) (Some tag) digits body known = refl
parts_read Other target host token tag digits body known = absurd (known refl)

-- if `CanBeRead` holds of the parts (they keep the rules of the server), the written text is the request `request_read` of these parts
pub written_is_read : (method : Method) (target host : List ℕ) (token tag : Option (List ℕ)) (body : List ℕ)
    → CanBeRead method target host token tag body
    → IsRequest (request_text method target host token tag body) (request_read method target token tag body)
written_is_read method target host token tag body can =
    let n = length body in
    let digits = decimal n in
    let head = written_head method target host token tag digits in
    let text = print_head method target host token tag body in
    let said = number_read n can.body_fits in
    let numeral = decimal_is_IsNumeral n (omega (arith, can.body_fits)) in
    let digits_are = All-weaker (λ b. is_ascii_digit b ≡ true) (λ b. is_value_byte b ≡ true) digit_is_value digits (digits_pass digits numeral.0.1) in
    record {
      head = head;
      body = body;
      has_head = record {
        reads = (
          record {
            method = method_token method can.method_is;
            target = (can.target_some, can.target_bytes);
            target_text = can.target_text;
            minor = omega arith;
            fields = written_fields_are method host token tag digits can.host_bytes can.token_bytes can.tag_bytes digits_are;
          },
          text,
        );
        short = omega (arith, can.head_fits, ap length text, length-append (print_request head) body);
      };
      accepted = no_fault method host token tag digits n said (fits_limit n can.body_fits);
      whole = length_known method host token tag digits n can.method_is said (λ get. ap length (can.body_allowed get));
      parts = parts_read method target host token tag digits body can.method_is;
    }
  where
    fits_limit : (n : ℕ) → n ≤ 1048576 → nat_lt 1048576 n ≡ false
    fits_limit n fits = grind (arith, nat_tests)
