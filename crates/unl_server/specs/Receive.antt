-- Receiving from a link: the bytes that are read, and what is found in them (a request, refused bytes, or the end).
use Rattle.std.specs.Prelude.{◌≡◌, ◌≢◌, ℕ, ◌<◌, List, [], ◌++◌, length, Option, Some, None, ⊤}
use Rattle.unl_base.specs.Streams.{Takes, HasEnded}
use Rattle.http.specs.StatusCode.{IsStatusCode}
use Rattle.unl_http_api.specs.Requests.{BeginsWith, IsBad, IsUnfinished}
use Rattle.unl_server.specs.declared.receive.Received.{Received}
use Rattle.unl_server.specs.declared.receive.Received.TheVariants.{Request as Whole, Bad, Closed, CutOff, ReadFault, Memory}

-- What was found at the start of `bytes`: a request, after which `held` is left; bytes that are refused with this status; or no whole
-- request, because the input ended or a read failed. If memory ran out, nothing is said. `left` are the bytes that can still be read.
abbrev pub IsNextItem : List ℕ → Option (List ℕ) → Received → List ℕ → Type 0
IsNextItem bytes left (Whole request) held = BeginsWith bytes request held
IsNextItem bytes left (Bad status) held = IsBad bytes status × IsStatusCode status
IsNextItem bytes left Closed held = (bytes ≡ []) × HasEnded left
IsNextItem bytes left CutOff held = (bytes ≢ []) × IsUnfinished bytes × HasEnded left
IsNextItem bytes left ReadFault held = IsUnfinished bytes
IsNextItem bytes left Memory held = ⊤

-- Bytes, perhaps none, were read from the link and appended to those held, and then `found` was the next item in all of these.
pub record Receives
    (held : List ℕ) (left : Option (List ℕ)) (found : Received) (held_after : List ℕ)
    (left_after : Option (List ℕ)) : Type 0 where
  pub read : List ℕ
  pub took : Takes left read left_after
  pub next : IsNextItem (held ++ read) left_after found held_after

-- at least one byte was read from the link and appended to those held, which were fewer than 1,056,768 bytes
pub record ReceivesPiece
    (held : List ℕ) (left : Option (List ℕ)) (held_after : List ℕ) (left_after : Option (List ℕ)) : Type 0 where
  pub piece : List ℕ
  pub some : 0 < length piece
  pub took : Takes left piece left_after
  pub added : held_after ≡ held ++ piece
  pub room : length held < 1056768

-- one turn: the next item was found, or more bytes were read
abbrev pub ReceivesTurn :
    List ℕ → Option (List ℕ) → Option Received → List ℕ → Option (List ℕ) → Type 0
ReceivesTurn held left (Some found) held_after left_after = Receives held left found held_after left_after
ReceivesTurn held left None held_after left_after = ReceivesPiece held left held_after left_after
