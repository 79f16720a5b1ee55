-- The request for what is new in a slot (the part of the board for one environment), and the effect of the server's reply on the slot.
use Rattle.std.specs.Prelude.{◌≡◌, ℕ, ◌==◌, Bool, not, List, [], Option, Some, None, option_map, Result, Ok, Err, ok_or, codes}
use Rattle.std.specs.Prelude.{if◌then◌else◌}
use Rattle.unl_delta.specs.declared.batch.Batch.{Batch as TheBatch}
use Rattle.unl_delta.specs.declared.batch.Verdict.{Verdict}
use Rattle.unl_delta.specs.declared.batch.Verdict.TheVariants as verdict
use Rattle.unl_delta.specs.declared.version.Place.{Place}
use Rattle.unl_delta.specs.Batch.{verdict_of}
use Rattle.unl_delta.specs.History.{Era, IsSent}
use Rattle.unl_delta.specs.Installing.{Installed, after_batch as taken_by, place_of}
use Rattle.unl_delta.specs.Reading.{BatchReading, batch_of_bytes, batch_of_feed}
use Rattle.unl_delta.specs.View.{Sees}
use Rattle.unl_documents.specs.declared.feed.Feed.{Feed as TheFeed}
use Rattle.unl_documents.specs.Reading.{Reading}
use Rattle.unl_documents.specs.States.{feed_in}
use Rattle.unl_http_api.specs.declared.got.BadReply.{BadReply}
use Rattle.unl_http_api.specs.declared.got.Got.{Got}
use Rattle.unl_http_api.specs.declared.request.Method.TheVariants.{Get}
use Rattle.unl_http_api.specs.RequestText.{request_text}
use Rattle.unl_refresh.specs.declared.ask.Ask.{Ask}
use Rattle.unl_refresh.specs.declared.outcome.Bad.{Bad}
use Rattle.unl_refresh.specs.declared.outcome.Bad.TheVariants.{Reply, Feed, NoNumber, Batch}
use Rattle.unl_refresh.specs.declared.outcome.Outcome.{Outcome}
use Rattle.unl_refresh.specs.declared.outcome.Outcome.TheVariants.{Published, Unchanged, Repeat, Old, Gap, Held, Refused, BadAnswer}
use Rattle.unl_refresh.specs.Exchange.{IsParsedFrom}

-- ---- the request

-- the path of the request: of events if `delta`, otherwise of a whole feed
abbrev pub target_path : Bool → List ℕ
target_path delta = if delta then codes "/api/client/delta" else codes "/api/client/features"

-- the bytes of the request for events (if `delta`) or a feed, with a host, a token and perhaps a tag
unfoldable pub refresh_request : Bool → List ℕ → List ℕ → Option (List ℕ) → List ℕ
refresh_request delta host token tag = request_text Get (target_path delta) host (Some token) tag []

-- the ask (the parameters of a request) with this tag in place of its own
abbrev pub with_tag : Option (List ℕ) → Ask → Ask
with_tag tag ask = record { host = ask.host; token = ask.token; delta = ask.delta; tag = tag }

-- ---- the body

-- the batch in a body of events, or why it can't be read
abbrev pub delta_in : BatchReading → Result TheBatch Bad
delta_in (Ok batch) = Ok batch
delta_in (Err fault) = Err (Batch fault)

-- the batch of a feed: one hydration (an event with the whole state); an error if the body is no feed or the feed has no number
abbrev pub feed_read : Reading TheFeed → Result TheBatch Bad
feed_read (Ok feed) = ok_or (batch_of_feed feed) NoNumber
feed_read (Err fault) = Err (Feed fault)

-- the batch in the body of a reply: of events if `delta`, otherwise of a feed; `held` is the number of the client's version: a batch of
-- events that lacks `after`, the number that it continues, is read as if `after` were `held`
abbrev pub batch_in : Bool → Option ℕ → List ℕ → Result TheBatch Bad
batch_in delta held body = if delta then delta_in (batch_of_bytes held body) else feed_read (feed_in body)

-- the number of a place's version; `None` if the place has no version
abbrev pub number_held : Place → Option ℕ
number_held place = option_map (λ version. version.number) place.version

-- ---- the effect

-- the effect of a refresh: the outcome, what is installed afterwards, and the tag of the next request
pub record Refreshed : Type 0 where
  pub outcome : Outcome
  pub installed : Installed
  pub tag : Option (List ℕ)

-- a reply that can't be parsed: nothing is applied, and the next request has no tag
abbrev pub unread : Bad → Installed → Refreshed
unread bad before = record { outcome = BadAnswer bad; installed = before; tag = None }

-- the outcome of a verdict on a batch; `front` is the number of publications after the verdict was carried out
abbrev pub outcome_of : Verdict → ℕ → Outcome
outcome_of verdict.Apply front = Published front
outcome_of verdict.Repeat front = Repeat
outcome_of verdict.Old front = Old
outcome_of verdict.Gap front = Gap
outcome_of verdict.Held front = Held

-- the tag of the next request: the reply's tag if the slot now has the whole batch; otherwise none, so that the server sends everything
abbrev pub tag_after : Verdict → Option (List ℕ) → Option (List ℕ)
tag_after verdict.Apply tag = tag
tag_after verdict.Repeat tag = tag
tag_after verdict.Old tag = None
tag_after verdict.Gap tag = None
tag_after verdict.Held tag = None

-- the effect of a verdict on a batch; `tag` is the tag of the reply that the batch came in
abbrev pub after_verdict : ℕ → TheBatch → Option (List ℕ) → Installed → Verdict → Refreshed
after_verdict slot batch tag before v = record {
  outcome = outcome_of v (taken_by v slot batch before).front;
  installed = taken_by v slot batch before;
  tag = tag_after v tag;
}

-- the effect of the batch in a body, or of a body that can't be parsed; `tag` is the tag of the reply
abbrev pub after_body : ℕ → Option (List ℕ) → Installed → Result TheBatch Bad → Refreshed
after_body slot tag before (Ok batch) =
    after_verdict slot batch tag before (verdict_of (place_of before slot) batch)
after_body slot tag before (Err bad) = unread bad before

-- the effect of a reply, by its status and body; `tag` is the tag of the request, which is kept unless the status is 200
abbrev pub after_reply : ℕ → Bool → Option (List ℕ) → Installed → Got → Refreshed
after_reply slot delta tag before got =
    if got.status == 304 then record { outcome = Unchanged; installed = before; tag = tag }
    else if not (got.status == 200) then record { outcome = Refused got.status; installed = before; tag = tag }
    else after_body slot got.tag before (batch_in delta (number_held (place_of before slot)) got.body)

-- the effect of a parsed reply, or of bytes that can't be parsed
abbrev pub after_reading : ℕ → Bool → Option (List ℕ) → Installed → Result Got BadReply → Refreshed
after_reading slot delta tag before (Ok got) = after_reply slot delta tag before got
after_reading slot delta tag before (Err bad) = unread (Reply bad) before

-- A reply is read from the bytes to come (from some bytes, if they are not observable), and `after` is its effect.
pub record Refreshes (slot : ℕ) (ask : Ask) (before : Installed) (coming : Option (List ℕ)) (after : Refreshed) : Type 0 where
  pub reading : Result Got BadReply
  pub is_read : IsParsedFrom coming reading
  pub gives : after ≡ after_reading slot ask.delta ask.tag before reading

-- ---- where the batches come from

-- Each batch that is read for the place from a reply with status 200 is one that a server can send from the line. The reply is parsed from
-- the bytes to come (from any bytes, if these are not observable). A line has one history of changes for each of several rising epochs.
-- `sees` are the projects that are visible to the client.
abbrev pub Brings : List Era → Sees → Bool → Place → Option (List ℕ) → Type 0
Brings line sees delta place coming =
    (got : Got) (batch : TheBatch) → IsParsedFrom coming (Ok got) → got.status ≡ 200
    → batch_in delta (number_held place) got.body ≡ Ok batch → IsSent line sees batch
