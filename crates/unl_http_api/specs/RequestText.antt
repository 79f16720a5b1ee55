-- The text of a request, as the client side of this crate writes it, and what the server reads from that text.
use Rattle.std.specs.Prelude.{◌≡◌, ◌≢◌, ℕ, ◌+◌, ◌<◌, ◌≤◌, List, [], ◌++◌, Bool, true, not, ◌==◌, ◌||◌, length, Option, None, IfSome}
use Rattle.std.specs.Prelude.{IsUtf8, codes}
use Rattle.std.specs.List.{list_all}
use Rattle.std.specs.Option.{option_map, option_map_or}
use Rattle.std.specs.Fmt.{decimal}
use Rattle.httparse.specs.Ascii.{crlf_bytes}
use Rattle.httparse.specs.Grammar.{AllPass, is_uri_byte, is_value_byte, trim_ows}
use Rattle.unl_http_api.specs.declared.request.Method.{Method}
use Rattle.unl_http_api.specs.declared.request.Method.TheVariants.{Get, Post, Other}
use Rattle.unl_http_api.specs.declared.request.Request.{Request}
use Rattle.unl_http_api.specs.Fields.{without_prefix}
use Rattle.unl_http_api.specs.Reply.{header}

-- the text fits in a header line: it has no CR, LF or NUL
abbrev pub fits_line : List ℕ → Bool
fits_line text = list_all (λ byte. not (byte == 0 || byte == 10 || byte == 13)) text

-- the text, if there is one, fits in a header line
abbrev pub fits_if_any : Option (List ℕ) → Bool
fits_if_any text = option_map_or fits_line text true

-- the name of a method; empty for `Other`, which `write_request` excludes
abbrev pub method_name : Method → List ℕ
method_name Get = codes "GET"
method_name Post = codes "POST"
method_name Other = []

-- the request line; the version is 1.0, so the reply ends with the connection and is not chunked
abbrev pub request_line : Method → List ℕ → List ℕ
request_line method target = method_name method ++ codes " " ++ target ++ codes " HTTP/1.0" ++ crlf_bytes

-- the header lines `Content-Type: application/json` and `Content-Length`
abbrev pub json_headers : List ℕ → List ℕ
json_headers body =
    header (codes "Content-Type") (codes "application/json")
    ++ header (codes "Content-Length") (decimal (length body))

-- the headers for the body, which only a POST has
abbrev pub body_headers : Method → List ℕ → List ℕ
body_headers Get body = []
body_headers Post body = json_headers body
body_headers Other body = []

-- the text of a request with these parts, which asks to close the connection
unfoldable pub request_text : Method → List ℕ → List ℕ → Option (List ℕ) → Option (List ℕ) → List ℕ → List ℕ
request_text method target host token tag body =
    request_line method target
    ++ header (codes "Host") host
    ++ option_map_or (header (codes "Authorization")) token []
    ++ option_map_or (header (codes "If-None-Match")) tag []
    ++ body_headers method body
    ++ header (codes "Connection") (codes "close")
    ++ crlf_bytes
    ++ body

-- The server can read a request with these parts: the method is GET or POST; the target isn't empty, is UTF-8, and has only target bytes;
-- no value has a control byte other than tab; head and body are within their limits; and only a POST has a body.
pub record CanBeRead
    (method : Method) (target host : List ℕ) (token tag : Option (List ℕ)) (body : List ℕ) : Type 0 where
  pub method_is : method ≢ Other
  pub target_some : 0 < length target
  pub target_bytes : AllPass is_uri_byte target
  pub target_text : IsUtf8 target
  pub host_bytes : AllPass is_value_byte host
  pub token_bytes : IfSome token (AllPass is_value_byte)
  pub tag_bytes : IfSome tag (AllPass is_value_byte)
  pub head_fits : length (request_text method target host token tag body) ≤ 8192 + length body
  pub body_fits : length body ≤ 1048576
  pub body_allowed : method ≡ Get → body ≡ []

-- What the server reads from a request with these parts: the token without white space around it and then without `Bearer `, and the tag
-- likewise without `W/`. The request names no client specification, and closes the connection.
abbrev pub request_read : Method → List ℕ → Option (List ℕ) → Option (List ℕ) → List ℕ → Request
request_read method target token tag body = record {
  method = method;
  target = target;
  token = option_map (λ text. without_prefix (codes "Bearer ") (trim_ows text)) token;
  tag = option_map (λ text. without_prefix (codes "W/") (trim_ows text)) tag;
  spec = None;
  close = true;
  body = body;
}
