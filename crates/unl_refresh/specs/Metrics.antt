-- Sending metrics: the request, the outcome, and the keys that are dropped from the book. The book sums counts for each key: an
-- environment, an application, a feature and an hour.
use Rattle.std.specs.Prelude.{◌≡◌, ◌≢◌, ◌==◌, ◌||◌, ℕ, List, Option, Some, None, Result, Ok, Err, codes, if◌then◌else◌}
use Rattle.std.specs.Prelude.{IfOk, OnErr, OnOk, option_map, ⊤}
use Rattle.serde_json.specs.Data.{Data}
use Rattle.serde_json.specs.Written.{compact_text}
use Rattle.unl_base.specs.Doors.{next_of}
use Rattle.unl_http_api.specs.declared.got.BadReply.{BadReply}
use Rattle.unl_http_api.specs.declared.got.BadReply.TheVariants.{Memory as no_memory}
use Rattle.unl_http_api.specs.declared.got.Got.{Got}
use Rattle.unl_http_api.specs.declared.request.Method.TheVariants.{Post}
use Rattle.unl_http_api.specs.RequestText.{request_text}
use Rattle.unl_metrics.specs.Book.{Book, acknowledge}
use Rattle.unl_metrics.specs.Bulk.{bulk}
use Rattle.unl_refresh.specs.declared.outcome.MetricsOutcome.{MetricsOutcome}
use Rattle.unl_refresh.specs.declared.outcome.MetricsOutcome.TheVariants.{Nothing, Sent, Refused, BadAnswer}
use Rattle.unl_refresh.specs.declared.outcome.RefreshFault.{RefreshFault}
use Rattle.unl_refresh.specs.Exchange.{Asks, AsksAtMostOnce, IsParsedFrom, PeerView}

-- the bytes of the request that carries a report, with a host and a token
unfoldable pub metrics_request : List ℕ → List ℕ → Data → List ℕ
metrics_request host token report =
    request_text Post (codes "/api/client/metrics/bulk") host (Some token) None (compact_text report)

-- the outcome of a report of `count` keys, from the result of parsing the reply: the statuses 200 and 202 accept the report, other
-- statuses refuse it, and bytes that are not a valid reply give `BadAnswer`
abbrev pub sent_by : ℕ → Result Got BadReply → MetricsOutcome
sent_by count (Ok got) = if got.status == 200 || got.status == 202 then Sent count else Refused got.status
sent_by count (Err bad) = BadAnswer bad

-- The outcome is `Nothing` if there was no report to send; else the reply determines it. `reading` is the result of parsing the reply, and
-- `count` the number of keys in the report.
abbrev pub OutcomeFromReply : Option (Data × ℕ) → Result Got BadReply → MetricsOutcome → Type 0
OutcomeFromReply None reading outcome = outcome ≡ Nothing
OutcomeFromReply (Some (report, count)) reading outcome = outcome ≡ sent_by count reading

-- A reply is read from the bytes to come (from some bytes, if the bytes to come are not observable).
-- It determines the outcome of a report of `count` keys.
pub record SendsKeys (count : ℕ) (coming : Option (List ℕ)) (outcome : MetricsOutcome) : Type 0 where
  pub reading : Result Got BadReply
  pub is_read : IsParsedFrom coming reading
  pub gives : outcome ≡ sent_by count reading

-- The outcome is `Nothing` if there is no report to send; else a reply determines it, as in `SendsKeys`.
abbrev pub SendsBulk : Option (Data × ℕ) → Option (List ℕ) → MetricsOutcome → Type 0
SendsBulk None coming outcome = outcome ≡ Nothing
SendsBulk (Some (report, count)) coming outcome = SendsKeys count coming outcome

-- One connection is made. It uses up one reply, and exactly the request with the report is sent on it. If there is no report, the peer is
-- unchanged.
abbrev pub AsksBulk :
    (found : Option (Data × ℕ)) (host token : List ℕ) (replies history replies_after history_after : Option (List (List ℕ))) → Type 0
AsksBulk None host token replies history replies_after history_after = (replies_after ≡ replies) × (history_after ≡ history)
AsksBulk (Some (report, count)) host token replies history replies_after history_after =
    Asks (metrics_request host token report) replies history replies_after history_after

-- As `AsksBulk`, but perhaps no connection is made, or only a prefix of the request is sent.
abbrev pub AsksBulkAtMostOnce :
    (found : Option (Data × ℕ)) (host token : List ℕ) (replies history replies_after history_after : Option (List (List ℕ))) → Type 0
AsksBulkAtMostOnce None host token replies history replies_after history_after = (replies_after ≡ replies) × (history_after ≡ history)
AsksBulkAtMostOnce (Some (report, count)) host token replies history replies_after history_after =
    AsksAtMostOnce (metrics_request host token report) replies history replies_after history_after

-- the book after an outcome: without the first `count` keys of the environment if the server accepted these; otherwise unchanged
abbrev pub book_after : List ℕ → MetricsOutcome → Book → Book
book_after environment (Sent count) book = acknowledge environment count book
book_after environment Nothing book = book
book_after environment (Refused status) book = book
book_after environment (BadAnswer bad) book = book

-- The outcome reports no allocation failure.
abbrev pub IsNamedMetrics : MetricsOutcome → Type 0
IsNamedMetrics (BadAnswer bad) = bad ≢ no_memory
IsNamedMetrics Nothing = ⊤
IsNamedMetrics (Sent count) = ⊤
IsNamedMetrics (Refused status) = ⊤

-- The effects of sending the metrics of an environment to a host, with a token.
pub record SentMetrics
    (environment host token : List ℕ) (before : Book) (peer : PeerView) (result : Result MetricsOutcome RefreshFault)
    (after : Book) (peer_after : PeerView) : Type 0 where
  -- On success, if there is something to send, a reply was read, and it determines the outcome.
  pub sends : IfOk result (SendsBulk (bulk environment before) (option_map next_of peer.replies))
  -- No outcome reports an allocation failure.
  pub named : IfOk result IsNamedMetrics
  -- On success the keys that the server accepted are dropped, and nothing else. On an error the book is unchanged.
  pub book : IfOk result (λ outcome. after ≡ book_after environment outcome before)
  pub fault : OnErr result (after ≡ before)
  -- If there is something to send: on success one connection is made, and the request is sent on it; on an error at most one connection is
  -- made, and the request or a prefix of it is sent.
  pub asks : OnOk result (AsksBulk (bulk environment before) host token peer.replies peer.history peer_after.replies peer_after.history)
  pub once : AsksBulkAtMostOnce (bulk environment before) host token peer.replies peer.history peer_after.replies peer_after.history
