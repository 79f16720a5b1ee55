-- How bytes parse as a reply: a head in the grammar of httparse, and the body after it.
use Rattle.std.specs.Prelude.{◌≡◌, ℕ, ◌≤◌, ◌⊎◌, ◌==◌, nat_lt, ◌||◌, if◌then◌else◌, List, length, take, map, Option, Some, None, is_none}
use Rattle.std.specs.Prelude.{option_and_then, Result, Ok, Err, codes}
use Rattle.httparse.specs.Grammar.{ResponseHead, print_response, ReadsResponse, status_code}
use Rattle.httparse.specs.Spans.{name_and_value}
use Rattle.unl_documents.specs.Results.{◌>>=◌}
use Rattle.unl_http_api.specs.declared.got.Got.{Got}
use Rattle.unl_http_api.specs.declared.got.BadReply.{BadReply}
use Rattle.unl_http_api.specs.declared.got.BadReply.TheVariants.{Head, Short, TooLarge}
use Rattle.unl_http_api.specs.Fields.{body_length, count_of, first_value, plain_number}

-- the bytes are this reply head and then `rest`, and the head has at most 8,192 bytes and 64 fields
pub record HasReplyHead (bytes : List ℕ) (head : ResponseHead) (rest : List ℕ) : Type 0 where
  pub reads : ReadsResponse bytes head rest
  pub short : length (print_response head) ≤ 8192
  pub few : length head.fields ≤ 64

-- the bytes don't begin with a reply head within these limits
abbrev pub HasNoReplyHead : List ℕ → Type 0
HasNoReplyHead bytes = (head : ResponseHead) (rest : List ℕ) → ¬ (HasReplyHead bytes head rest)

-- the names and values of a reply head's fields
abbrev pub reply_fields : ResponseHead → List (List ℕ × List ℕ)
reply_fields head = map name_and_value head.fields

-- the length that the first `content-length` field states; `None` if there is no such field or it isn't 1 to 19 digits
abbrev pub stated_length : List (List ℕ × List ℕ) → Option ℕ
stated_length fields = option_and_then plain_number (first_value (codes "content-length") fields)

-- The length of the body: the stated length, or the number of all following bytes if no length is stated. `TooLarge` above 16,777,216
-- bytes, a limit chosen by this project; otherwise `Short` if fewer bytes follow than stated.
abbrev pub size_among : Option ℕ → ℕ → Result ℕ BadReply
size_among (Some stated) following =
    if nat_lt 16777216 stated then Err TooLarge else if nat_lt following stated then Err Short else Ok stated
size_among None following = if nat_lt 16777216 following then Err TooLarge else Ok following

-- The length of the body, from the status, the fields and the number of bytes after the head. `Head` if there is a
-- `transfer-encoding`, more than one `content-length`, or one that isn't 1 to 19 digits. A 304 has no body, whatever length it
-- states.
abbrev pub body_size : ℕ → List (List ℕ × List ℕ) → ℕ → Result ℕ BadReply
body_size status fields following =
    if nat_lt 0 (count_of (codes "transfer-encoding") fields) || is_none (body_length fields) then Err Head
    else if status == 304 then Ok 0
    else size_among (stated_length fields) following

-- the reply with this status, this body, and the first `etag` of these fields as its tag
abbrev pub got_with : ℕ → List (List ℕ × List ℕ) → List ℕ → Got
got_with status fields body = record { status = status; tag = first_value (codes "etag") fields; body = body }

-- the reply with this status and these fields, whose body is among the bytes after the head; or the fault of the body
abbrev pub reading_with : ℕ → List (List ℕ × List ℕ) → List ℕ → Result Got BadReply
reading_with status fields rest =
    body_size status fields (length rest) >>= λ size. Ok (got_with status fields (take size rest))

-- the reply with this head, whose body is among the bytes after it; or the fault of the body
abbrev pub reading_of : ResponseHead → List ℕ → Result Got BadReply
reading_of head rest = reading_with (status_code head) (reply_fields head) rest

-- How bytes parse if no more follow: as `reading_of` says of their head, or as the fault `Head` if they begin with no head.
abbrev pub IsReply : List ℕ → Result Got BadReply → Type 0
IsReply bytes reading =
    ((head : ResponseHead) × (rest : List ℕ) × HasReplyHead bytes head rest × (reading ≡ reading_of head rest))
    ⊎ (HasNoReplyHead bytes × (reading ≡ Err Head))

-- the bytes parse in exactly one way
pub record HasOneReply (bytes : List ℕ) : Type 0 where
  pub reading : Result Got BadReply
  pub is_reply : IsReply bytes reading
  pub only : (other : Result Got BadReply) → IsReply bytes other → reading ≡ other
