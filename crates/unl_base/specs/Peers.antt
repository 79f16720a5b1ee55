-- The state of a peer: a program's connection to a server, opened again for each exchange. An optional field that isn't observable is
-- `None`.
use Rattle.std.specs.Io.KnownBytes.{ReadConsumes, WriteAppends}
use Rattle.std.specs.Prelude.{◌≡◌, Bool, true, false, List, [], ◌∷◌, ◌++◌, Option, None, ℕ, Result, Ok, IfNone, IfSome}
use Rattle.std.specs.Prelude.{drop, length, option_and_then, option_map}
use Rattle.unl_base.specs.Doors.{next_of}

-- The state of a peer: whether it is connected; the bytes still to be read; the bytes sent since the last successful connect; the bytes
-- sent before that, as a list (`earlier`) with a first text for the time before the first connection and then a text for each earlier
-- connection; and the bytes that each later connection will give to its reader (`replies`).
pub record PeerState : Type 0 where
  pub connected : Bool
  pub left : Option (List ℕ)
  pub sent : Option (List ℕ)
  pub earlier : Option (List (List ℕ))
  pub replies : Option (List (List ℕ))

-- The state, besides its bytes, of a stream that is neither a link nor a peer: not connected, and nothing is observable.
abbrev pub no_other_parts : PeerState
no_other_parts = record { connected = false; left = None; sent = None; earlier = None; replies = None }

-- All bytes sent to a peer: a first text for the time before the first connection, then a text for each connection in order. The last text
-- has the bytes sent since the last successful connect.
abbrev pub history_of : PeerState → Option (List (List ℕ))
history_of peer = option_and_then (λ list. option_map (λ sent. list ++ sent ∷ []) peer.sent) peer.earlier

-- The state after a successful connect: the next reply is to be read, nothing was sent, and the bytes sent before are in `earlier`.
abbrev pub after_connect : PeerState → PeerState
after_connect peer = record {
  connected = true;
  left = option_map next_of peer.replies;
  sent = option_map (λ _. []) peer.sent;
  earlier = history_of peer;
  replies = option_map (λ list. drop 1 list) peer.replies;
}

-- The state after a failed connect: there is no connection, and nothing to read. The bytes sent and the replies are unchanged.
abbrev pub after_failed_connect : PeerState → PeerState
after_failed_connect peer = record peer { connected = false; left = option_map (λ _. []) peer.left }

-- A read goes to the stream of the connection if there is one. Without a connection it returns 0.
pub record ReadsConnection {S E : Type 0} (remaining : S → Option (List ℕ))
    (old new : Option S) (result : Result ℕ E) (room : List ℕ) : Type 0 where
  pub forwards : IfSome old (λ was. IfSome new (λ now. ReadConsumes (remaining was) (remaining now) result room))
  pub alone : IfNone old (result ≡ Ok 0)

-- A write goes to the stream of the connection if there is one, and appends to the bytes sent as far as these are
-- observable. Without a connection all of the piece is dropped, and the write succeeds.
pub record WritesConnection {S E : Type 0} (contents : S → Option (List ℕ))
    (old new : Option S) (result : Result ℕ E) (piece : List ℕ) : Type 0 where
  pub forwards : IfSome old (λ was. IfSome new (λ now. WriteAppends (contents was) (contents now) result piece))
  pub alone : IfNone old (result ≡ Ok (length piece))
