-- One exchange with a peer: a connect, a request, and the reply to it.
use Rattle.std.specs.Prelude.{◌≡◌, ℕ, ◌<◌, ◌≤◌, ◌⊎◌, Bool, true, false, List, [], ◌∷◌, ◌++◌, drop, length, Option, Some, None}
use Rattle.std.specs.Prelude.{option_map, Result, Err, OnOk, ⊤}
use Rattle.unl_base.specs.Doors.{next_of}
use Rattle.unl_base.specs.Faults.{Rose}
use Rattle.unl_base.specs.Peers.{PeerState, history_of}
use Rattle.unl_base.specs.Streams.{Takes, HasEnded}
use Rattle.unl_http_api.specs.declared.got.Got.{Got}
use Rattle.unl_http_api.specs.declared.got.BadReply.{BadReply}
use Rattle.unl_http_api.specs.Received.{IsReply}
use Rattle.unl_refresh.specs.declared.outcome.RefreshFault.{RefreshFault}
use Rattle.unl_refresh.specs.declared.outcome.RefreshFault.TheVariants.{PeerFault, Memory}

-- ---- what is sent

-- The history of a peer is the list of the texts sent to it: one for the time before the first connection, and one for each connection. It
-- ends with one more text now: `text`, which is all that was sent on a new connection.
abbrev pub AddsText : Option (List (List ℕ)) → List ℕ → Option (List (List ℕ)) → Type 0
AddsText history text history_after = history_after ≡ option_map (λ texts. texts ++ text ∷ []) history

-- The history ends with one more text now, which is a prefix of `text`: all that was sent on a new connection.
pub record AddsPrefix (history : Option (List (List ℕ))) (text : List ℕ) (history_after : Option (List (List ℕ))) : Type 0 where
  pub part : List ℕ
  pub after : List ℕ
  pub split : text ≡ part ++ after
  pub adds : AddsText history part history_after

-- One connection is made. It uses up one reply, and exactly the request is sent on it.
pub record Asks (request : List ℕ) (replies history replies_after history_after : Option (List (List ℕ))) : Type 0 where
  pub one_reply : replies_after ≡ option_map (λ list. drop 1 list) replies
  pub sends : AddsText history request history_after

-- One connection is made. It uses up one reply, and exactly a prefix of the request (perhaps all of it) is sent on it.
pub record AsksPart (request : List ℕ) (replies history replies_after history_after : Option (List (List ℕ))) : Type 0 where
  pub one_reply : replies_after ≡ option_map (λ list. drop 1 list) replies
  pub sends : AddsPrefix history request history_after

-- No reply is used up and nothing is sent; or one connection is made, which uses up one reply, and the request or a prefix of it is sent.
abbrev pub AsksAtMostOnce : (request : List ℕ) (replies history replies_after history_after : Option (List (List ℕ))) → Type 0
AsksAtMostOnce request replies history replies_after history_after =
    ((replies_after ≡ replies) × (history_after ≡ history)) ⊎ AsksPart request replies history replies_after history_after

-- ---- what is read

-- A nonempty piece is read and appended to the bytes held.
pub record AddsPiece
    (held : List ℕ) (left : Option (List ℕ)) (held_after : List ℕ) (left_after : Option (List ℕ)) : Type 0 where
  pub piece : List ℕ
  pub some : 0 < length piece
  pub took : Takes left piece left_after
  pub added : held_after ≡ held ++ piece

-- `true`: a piece is read and appended to the bytes held. `false`: the stream has ended, and nothing is appended.
abbrev pub ReadsPiece : Bool → List ℕ → Option (List ℕ) → List ℕ → Option (List ℕ) → Type 0
ReadsPiece true held left held_after left_after = AddsPiece held left held_after left_after
ReadsPiece false held left held_after left_after = (held_after ≡ held) × HasEnded left

-- `held` is all of `bytes`, or a prefix that is long enough to decide how `bytes` are parsed: at least 16785409 bytes, one more than the
-- longest reply has (a head of 8192 bytes and a body of 16777216 bytes).
pub record IsEnough (bytes held : List ℕ) : Type 0 where
  pub more : List ℕ
  pub split : bytes ≡ held ++ more
  pub decides : (more ≡ []) ⊎ (16785409 ≤ length held)

-- The bytes held are all of the bytes to come, or a prefix long enough to decide how these are parsed. Nothing is required if the bytes to
-- come are not observable (`None`).
abbrev pub HoldsEnough : Option (List ℕ) → List ℕ → Type 0
HoldsEnough None held = ⊤
HoldsEnough (Some bytes) held = IsEnough bytes held

-- `reading` is the result of parsing the bytes to come: a reply, or why they are not a valid one. If the bytes to come are not observable
-- (`None`), it is the result of parsing some bytes.
abbrev pub IsParsedFrom : Option (List ℕ) → Result Got BadReply → Type 0
IsParsedFrom None reading = (bytes : List ℕ) × IsReply bytes reading
IsParsedFrom (Some bytes) reading = IsReply bytes reading

-- ---- the whole exchange

-- What contracts see of a peer: the bytes that each later connection gives to its reader (`replies`), the texts sent to the peer
-- (`history`, as in `AddsText`), and its fault count. `None` if not observable.
pub record PeerView : Type 0 where
  pub replies : Option (List (List ℕ))
  pub history : Option (List (List ℕ))
  pub faults : ℕ

-- what contracts see of a peer in this state, with this fault count
abbrev pub peer_view : PeerState → ℕ → PeerView
peer_view peer faults = record { replies = peer.replies; history = history_of peer; faults = faults }

-- what a request received: the result of parsing the reply, or `None` if the peer failed
abbrev pub ReplyOrFault : Type 0
ReplyOrFault = Option (Result Got BadReply)

-- `Some`: the request was sent on a new connection, and the next reply was read. `None`: the peer failed and its fault count rose, after at
-- most one connection, on which the request or a prefix of it was sent.
abbrev pub Meets : ReplyOrFault → List ℕ → PeerView → PeerView → Type 0
Meets (Some reading) request before after =
    IsParsedFrom (option_map next_of before.replies) reading × Asks request before.replies before.history after.replies after.history
    × (after.faults ≡ before.faults)
Meets None request before after =
    AsksAtMostOnce request before.replies before.history after.replies after.history × Rose before.faults after.faults

-- The effect on the peer's fault count of a call that makes at most one exchange: the count rises if the result is `PeerFault`. It is
-- unchanged on success and on `Memory`.
pub record HasPeerCause {T : Type 0} (result : Result T RefreshFault) (before after : ℕ) : Type 0 where
  pub later : before ≤ after
  pub cause : result ≡ Err PeerFault → Rose before after
  pub still : OnOk result (after ≡ before)
  pub untouched : result ≡ Err Memory → after ≡ before
