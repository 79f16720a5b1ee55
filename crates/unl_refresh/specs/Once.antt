-- One refresh of a slot: its result, and how it changes what is installed, the ask and the peer. An ask has the parameters of the
-- request; a peer is the connection to the server.
use Rattle.std.specs.Prelude.{◌≡◌, ◌≢◌, ◌+◌, ℕ, List, Some, None, Result, Ok, Err, IfOk, OnErr, OnOk, IsTrue, drop, option_map}
use Rattle.unl_base.specs.Doors.{next_of}
use Rattle.unl_base.specs.Faults.{Rose}
use Rattle.unl_delta.specs.declared.batch.Batch.{Batch}
use Rattle.unl_delta.specs.declared.batch.Verdict.TheVariants.{Apply}
use Rattle.unl_delta.specs.Batch.{verdict_of}
use Rattle.unl_delta.specs.History.{Era, IsLine, IsNotBelow, PlaceRepresents}
use Rattle.unl_delta.specs.Installing.{Installed, after_install, place_of}
use Rattle.unl_delta.specs.View.{Sees}
use Rattle.unl_http_api.specs.declared.got.BadReply.{BadReply}
use Rattle.unl_http_api.specs.declared.got.Got.{Got}
use Rattle.unl_http_api.specs.Received.{IsReply}
use Rattle.unl_http_api.specs.RequestText.{fits_if_any}
use Rattle.unl_refresh.specs.declared.ask.Ask.{Ask}
use Rattle.unl_refresh.specs.declared.outcome.Outcome.{Outcome}
use Rattle.unl_refresh.specs.declared.outcome.Outcome.TheVariants.{Published}
use Rattle.unl_refresh.specs.declared.outcome.RefreshFault.{RefreshFault}
use Rattle.unl_refresh.specs.declared.outcome.RefreshFault.TheVariants.{Memory}
use Rattle.unl_refresh.specs.Exchange.{Asks, AsksAtMostOnce, PeerView}
use Rattle.unl_refresh.specs.Named.{IsNamedOutcome}
use Rattle.unl_refresh.specs.Refresh.{Brings, Refreshes, after_reading, batch_in, number_held, refresh_request, with_tag}

-- what a refresh changes: what is installed, the ask, and the peer
pub record RefreshState : Type 0 where
  pub installed : Installed
  pub ask : Ask
  pub peer : PeerView

-- a constructor of `RefreshState`
abbrev pub refresh_state : Installed → Ask → PeerView → RefreshState
refresh_state installed ask peer = record { installed = installed; ask = ask; peer = peer }

-- the bytes of the request that has the parameters of the ask, with the ask's own tag
abbrev pub asked_by : Ask → List ℕ
asked_by ask = refresh_request ask.delta ask.host ask.token ask.tag

-- The effects of a refresh of a slot, whether or not the peer's replies are observable.
pub record RefreshedOnce (slot : ℕ) (before : RefreshState) (result : Result Outcome RefreshFault) (after : RefreshState) : Type 0 where
  -- On success a reply was read, and it determines the outcome, what is installed, and the tag.
  pub takes : IfOk result (λ outcome. Refreshes slot before.ask before.installed (option_map next_of before.peer.replies)
      (record { outcome = outcome; installed = after.installed; tag = after.ask.tag }))
  -- No outcome reports an allocation failure.
  pub named : IfOk result IsNamedOutcome
  -- On an error nothing is applied, and the ask has no tag.
  pub fault : OnErr result (after.installed ≡ before.installed)
  pub no_tag : OnErr result (after.ask.tag ≡ None)
  -- Only the ask's tag changes, and the new tag is fit to be sent in the next request.
  pub same_ask : after.ask ≡ with_tag after.ask.tag before.ask
  pub next_tag : IsTrue (fits_if_any after.ask.tag)
  -- On success one connection is made, and the request is sent on it. On an error at most one connection is made, and the request or a
  -- prefix of it is sent.
  pub asks : OnOk result (Asks (asked_by before.ask) before.peer.replies before.peer.history after.peer.replies after.peer.history)
  pub once : AsksAtMostOnce (asked_by before.ask) before.peer.replies before.peer.history after.peer.replies after.peer.history

-- How a refresh of a slot uses the next of the peer's replies.
pub record TakesNextReply (slot : ℕ) (before : RefreshState) (result : Result Outcome RefreshFault) (after : RefreshState) : Type 0 where
  -- If the replies are observable, the next one of them is read; on success it determines the outcome, what is installed, and the tag.
  pub next_reply : (list : List (List ℕ)) (reading : Result Got BadReply) → before.peer.replies ≡ Some list → IsReply (next_of list) reading
      → IfOk result (λ outcome. record { outcome = outcome; installed = after.installed; tag = after.ask.tag }
      ≡ after_reading slot before.ask.delta before.ask.tag before.installed reading)
  -- So a batch that applies, in a reply with status 200, is published, unless the peer failed or memory ran out.
  pub complete : (list : List (List ℕ)) (got : Got) (batch : Batch) → before.peer.replies ≡ Some list → IsReply (next_of list) (Ok got)
      → got.status ≡ 200 → batch_in before.ask.delta (number_held (place_of before.installed slot)) got.body ≡ Ok batch
      → verdict_of (place_of before.installed slot) batch ≡ Apply
      → ¬ (Rose before.peer.faults after.peer.faults) → result ≢ Err Memory
      → (result ≡ Ok (Published (before.installed.front + 1))) × (after.installed ≡ after_install slot batch before.installed)
  -- Unless the peer failed or memory ran out, exactly one reply is used up.
  pub one_reply : ¬ (Rose before.peer.faults after.peer.faults) → result ≢ Err Memory
      → after.peer.replies ≡ option_map (λ list. drop 1 list) before.peer.replies

-- If the version of the slot, if any, represents a line (one history of changes for each of several rising epochs) and the server sends
-- batches from that line, then the version after the refresh represents the line too, through the same visible projects. It is not older:
-- its epoch is higher, or the epoch is the same and its number is not lower. This holds even if batches are lost, duplicated or out of
-- order.
abbrev pub Delivers : ℕ → RefreshState → RefreshState → Type 0
Delivers slot before after =
    (line : List Era) (sees : Sees) → IsLine line → PlaceRepresents line sees (place_of before.installed slot)
    → Brings line sees before.ask.delta (place_of before.installed slot) (option_map next_of before.peer.replies)
    → PlaceRepresents line sees (place_of after.installed slot)
    × IsNotBelow (place_of before.installed slot).version (place_of after.installed slot).version
