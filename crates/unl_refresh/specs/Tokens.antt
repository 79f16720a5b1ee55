-- Refreshing the book of tokens from the upstream server: the request that is sent, and the effect of the reply. `texts` are the
-- texts of the tokens that are asked for.
use Rattle.std.specs.Prelude.{◌≡◌, ◌==◌, ℕ, not, List, Option, Some, None, Result, Ok, Err, codes, if◌then◌else◌}
use Rattle.std.specs.Prelude.{IfOk, OnErr, OnOk, option_map}
use Rattle.serde_json.specs.Written.{compact_text}
use Rattle.unl_base.specs.Doors.{next_of}
use Rattle.unl_delta.specs.Installing.{Installed, IsBookInstalled}
use Rattle.unl_http_api.specs.declared.got.BadReply.{BadReply}
use Rattle.unl_http_api.specs.declared.got.Got.{Got}
use Rattle.unl_http_api.specs.declared.request.Method.TheVariants.{Post}
use Rattle.unl_http_api.specs.RequestText.{request_text}
use Rattle.unl_tokens.specs.declared.token.Token.{Token}
use Rattle.unl_tokens.specs.Books.{BookReading, book_in, kept}
use Rattle.unl_tokens.specs.Requests.{request_data}
use Rattle.unl_refresh.specs.declared.outcome.Bad.TheVariants.{Reply, Book}
use Rattle.unl_refresh.specs.declared.outcome.Outcome.{Outcome}
use Rattle.unl_refresh.specs.declared.outcome.Outcome.TheVariants.{Published, Unchanged, Repeat, Old, Gap, Held, Refused, BadAnswer}
use Rattle.unl_refresh.specs.declared.outcome.RefreshFault.{RefreshFault}
use Rattle.unl_refresh.specs.Exchange.{Asks, AsksAtMostOnce, IsParsedFrom, PeerView}
use Rattle.unl_refresh.specs.Named.{IsNamedOutcome}

-- the bytes of the request: a POST to `/edge/validate` with this host, and with the token texts in its body
unfoldable pub tokens_request : List (List ℕ) → List ℕ → List ℕ
tokens_request texts host =
    request_text Post (codes "/edge/validate") host None None (compact_text (request_data texts))

-- the tokens of the book whose text is among `texts`; if the book could not be read, the outcome that reports why
abbrev pub kept_in : List (List ℕ) → BookReading → Result (List Token) Outcome
kept_in texts (Ok book) = Ok (kept texts book)
kept_in texts (Err fault) = Err (BadAnswer (Book fault))

-- as `kept_in`, for the book in the body of a reply
abbrev pub book_read : List (List ℕ) → List ℕ → Result (List Token) Outcome
book_read texts body = kept_in texts (book_in body)

-- as `book_read`, for a parsed reply: a status other than 200 gives `Refused`; bytes that are not a valid reply give `BadAnswer`
abbrev pub book_in_reply : List (List ℕ) → Result Got BadReply → Result (List Token) Outcome
book_in_reply texts (Ok got) = if not (got.status == 200) then Err (Refused got.status) else book_read texts got.body
book_in_reply texts (Err bad) = Err (BadAnswer (Reply bad))

-- The effect on what is installed. With a book: it is published, and `front` is the new number of publications (`Published`); or it is the
-- current one already, and nothing changes (`Repeat`); other outcomes don't occur. Without a book: the outcome reports why, and nothing
-- changes.
abbrev pub Installs : Result (List Token) Outcome → Installed → Outcome → Installed → Type 0
Installs (Err other) before outcome after = (outcome ≡ other) × (after ≡ before)
Installs (Ok book) before (Published front) after = IsBookInstalled book before (Some front) after
Installs (Ok book) before Repeat after = IsBookInstalled book before None after
Installs (Ok book) before Unchanged after = ⊥
Installs (Ok book) before Old after = ⊥
Installs (Ok book) before Gap after = ⊥
Installs (Ok book) before Held after = ⊥
Installs (Ok book) before (Refused status) after = ⊥
Installs (Ok book) before (BadAnswer bad) after = ⊥

-- A reply is parsed from `coming`, the bytes that the peer sends, and it has the effect of `Installs`. If these bytes are not observable,
-- `coming` is `None`, and the reply is parsed from some bytes.
pub record RefreshesTokens
    (texts : List (List ℕ)) (before : Installed) (coming : Option (List ℕ)) (outcome : Outcome) (after : Installed) : Type 0 where
  pub reading : Result Got BadReply
  pub is_read : IsParsedFrom coming reading
  pub installs : Installs (book_in_reply texts reading) before outcome after

-- The effects of refreshing the token book.
pub record RefreshedTokens
    (texts : List (List ℕ)) (host : List ℕ) (before : Installed) (peer : PeerView) (result : Result Outcome RefreshFault)
    (after : Installed) (peer_after : PeerView) : Type 0 where
  -- On success a reply was read, and it determines the outcome and what is installed.
  pub takes : IfOk result (λ outcome. RefreshesTokens texts before (option_map next_of peer.replies) outcome after)
  -- No outcome reports an allocation failure.
  pub named : IfOk result IsNamedOutcome
  -- On an error nothing is applied.
  pub fault : OnErr result (after ≡ before)
  -- On success one connection is made, and the request is sent on it. On an error at most one connection is made, and the request or a
  -- prefix of it is sent.
  pub asks : OnOk result (Asks (tokens_request texts host) peer.replies peer.history peer_after.replies peer_after.history)
  pub once : AsksAtMostOnce (tokens_request texts host) peer.replies peer.history peer_after.replies peer_after.history
