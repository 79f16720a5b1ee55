-- How the batches, feeds and asks (requests of clients) in the lines of a replay are parsed from JSON.
use Rattle.std.specs.Prelude.{ℕ, List, [], codes, Option, unwrap_or, ok_or, if◌then◌else◌, false, Ok, Err}
use Rattle.std.specs.Str.{bytes_eq}
use Rattle.serde_json.specs.Data.{Data}
use Rattle.serde_json.specs.Find.{as_str}
use Rattle.unl_delta.specs.declared.batch.Batch.{Batch}
use Rattle.unl_delta.specs.Reading.{batch_of, batch_of_feed}
use Rattle.unl_documents.specs.declared.fault.BadDocument.TheVariants.{WrongKind}
use Rattle.unl_documents.specs.declared.feed.Feed.{Feed}
use Rattle.unl_documents.specs.declared.field.Field.{Field}
use Rattle.unl_documents.specs.declared.field.Field.TheVariants as field
use Rattle.unl_documents.specs.Kinds.{any_text, any_whole, whole, object_of, required, optional, defaulted}
use Rattle.unl_documents.specs.Reading.{Reading, ◌>>=◌}
use Rattle.unl_documents.specs.States.{feed_of}
use Rattle.unl_http_api.specs.declared.request.Method.{Method}
use Rattle.unl_http_api.specs.declared.request.Method.TheVariants.{Get, Post}
use Rattle.unl_replay.specs.declared.ask.LineAsk.{LineAsk}
use Rattle.unl_replay.specs.declared.refusal.Refusal.TheVariants.{NoNumber}
use Rattle.unl_replay.specs.Refusals.{LineReading, and_then, documented, refusing, refusal_for_batch}

-- ---- batches and feeds

-- accepts a value of any kind, unchanged
abbrev pub any_value : Field → Data → Reading Data
any_value field value = Ok value

-- the batch of a line; `held` is the number of the environment's current version, if it has one, and is used in place of a missing `after`
abbrev pub batch_in : Option ℕ → Data → LineReading Batch
batch_in held line = and_then (documented (required any_value field.Batch line)) (λ value. refusing refusal_for_batch (batch_of held value))

-- the feed as a batch with one hydration, or NoNumber if the feed has no number
abbrev pub as_batch : Feed → LineReading Batch
as_batch feed = ok_or (batch_of_feed feed) NoNumber

-- the feed of a line, as a batch
abbrev pub feed_in : Data → LineReading Batch
feed_in line = and_then (documented (required (object_of feed_of) field.Feed line)) as_batch

-- ---- asks

-- the method of this name, `GET` or `POST`; the error `WrongKind` for any other name
abbrev pub method_by : Field → List ℕ → Reading Method
method_by field word =
    if bytes_eq word (codes "GET") then Ok Get else (if bytes_eq word (codes "POST") then Ok Post else Err (WrongKind field))

-- the method that a JSON value names; the error `WrongKind` for any value but the strings `GET` and `POST`
unfoldable pub method : Field → Data → Reading Method
method field value = do
  word ← ok_or (as_str value) (WrongKind field)
  method_by field word

-- the greatest time of a draw that is accepted, in milliseconds since 1970
abbrev pub last_moment : ℕ
last_moment = 100000000000000

-- the bytes, or no bytes if absent
abbrev pub bytes_or_none : Option (List ℕ) → List ℕ
bytes_or_none o = unwrap_or o []

-- parses an ask: a request, which never asks to close the connection, and the draw to answer it with; only the target is required
unfoldable pub ask_of : Data → Reading LineAsk
ask_of d = do
  target ← required any_text field.Target d
  token ← optional any_text field.Token d
  tag ← optional any_text field.Tag d
  spec ← optional any_text field.Spec d
  body ← optional any_text field.Body d
  by ← defaulted Get method field.Method d
  now ← defaulted 0 (whole last_moment) field.Now d
  word ← defaulted 0 any_whole field.Word d
  Ok (record {
    request = record { method = by; target = target; token = token; tag = tag; spec = spec; close = false; body = bytes_or_none body };
    draw = record { now = now; word = word };
  })
