-- The bytes in the buffers of a connection.
use Rattle.std.specs.Prelude.{◌≡◌, ◌==◌, Bool, List, ℕ, Option, Result, MatchOption, MatchResult, drop, length, nat_lt, not, take}
use Rattle.std.specs.Io.KnownBytes.{Consumes, Keeps, append_known, prepend_known}
use Rattle.unl_http_api.specs.declared.frame.Frame.{Frame}
use Rattle.unl_http_api.specs.declared.frame.Frame.TheVariants.{Whole, More, Bad}
use Rattle.unl_net.specs.declared.buffers.ReceiveBuffer.{ReceiveBuffer}
use Rattle.unl_net.specs.declared.buffers.SendBuffer.{SendBuffer}
use Rattle.unl_net.specs.declared.phase.Facts.{Facts}

-- the bytes that were received and not read yet
abbrev pub unread : ReceiveBuffer → List ℕ
unread buffer = drop buffer.taken buffer.bytes.items

-- How many received bytes a link may read: if they begin with a whole request, its length; if they begin with an unfinished request, 0; if
-- they are refused (no valid request begins with them), all of them.
abbrev pub opened_len : Frame → List ℕ → ℕ
opened_len (Whole count) bytes = count
opened_len More bytes = 0
opened_len (Bad status) bytes = length bytes

-- `prefix` is a prefix of `bytes`
unfoldable pub HasPrefix : List ℕ → List ℕ → Type 0
HasPrefix prefix bytes = take (length prefix) bytes ≡ prefix

-- the bytes that are still to be sent
abbrev pub unsent : SendBuffer → List ℕ
unsent buffer = drop buffer.sent buffer.bytes.items

-- the bytes that a connection has for its reader, if known: those received and not read yet, then those still to be read from its stream
abbrev pub coming : ReceiveBuffer → Option (List ℕ) → Option (List ℕ)
coming buffer remaining = prepend_known (unread buffer) remaining

-- the bytes written to a connection, if known: those that its stream took, then those still to be sent
abbrev pub outgoing : Option (List ℕ) → SendBuffer → Option (List ℕ)
outgoing contents buffer = append_known contents (unsent buffer)

-- The effect of a read into the buffer `room`. If it returns `n`, the first `n` bytes of `room` were removed from the start of the bytes
-- to come. If it fails, no bytes were removed. `old` and `new` are the bytes to come before and after the read.
abbrev pub ConsumesReturned : {E : Type 0} → Option (List ℕ) → Option (List ℕ) → Result ℕ E → List ℕ → Type 0
ConsumesReturned old new r room = MatchResult r (λ n. Consumes old new (take n room)) (λ _. Keeps old new)

-- the same for a read that may also return `None`, if no bytes came in time: then no bytes were removed
abbrev pub ConsumesReturnedIfAny : {E : Type 0} → Option (List ℕ) → Option (List ℕ) → Result (Option ℕ) E → List ℕ → Type 0
ConsumesReturnedIfAny old new r room =
    MatchResult r (λ count. MatchOption count (Keeps old new) (λ n. Consumes old new (take n room))) (λ _. Keeps old new)

-- the facts that decide what a connection with these buffers waits for; `closing`: it is to be closed once all bytes are sent; `ended`: its
-- client has shut down its side
abbrev pub facts_of : ReceiveBuffer → SendBuffer → Bool → Bool → Facts
facts_of received to_send closing ended = record {
  asked = nat_lt 0 received.opened;
  began = not (length (unread received) == 0);
  owes = not (length (unsent to_send) == 0);
  closing = closing;
  ended = ended;
}
