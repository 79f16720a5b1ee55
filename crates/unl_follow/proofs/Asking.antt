-- The effect of one request, for a reply that was read and for a fault.
use Rattle.std.proofs.Common.{◌≡◌, ℕ, List, Option, Some, None, ap}
use Rattle.unl_base.specs.Faults.{Rose}
use Rattle.unl_base.specs.Doors.{next_of}
use Rattle.unl_base.specs.Peers.{PeerState, history_of}
use Rattle.std.specs.Option.{option_map}
use Rattle.unl_refresh.specs.declared.ask.Ask.{Ask}
use Rattle.unl_refresh.specs.declared.outcome.Outcome.{Outcome}
use Rattle.unl_refresh.specs.Exchange.{Asks, AsksAtMostOnce}
use Rattle.unl_refresh.specs.Refresh.{Refreshed, Refreshes}
use Rattle.unl_follow.specs.Replica.{Kept, installed_by}
use Rattle.unl_follow.specs.Run.{AsksOnce}
use Rattle.unl_follow.specs.Turns.{TurnState, request_at, turned_by, turned_to}

-- the state between two turns, from the replica's state and the tag of the next request
abbrev kept_state : Kept → Option (List ℕ) → TurnState
kept_state kept tag = record { installed = installed_by kept; tag = tag }

pub replied : (ask : Ask) (before after : Kept) (tag : Option (List ℕ)) (outcome : Outcome) (peer peer_after : PeerState)
    (faults faults_after : ℕ) → Refreshes 0 ask (installed_by before) (option_map next_of peer.replies)
    (record { outcome = outcome; installed = installed_by after; tag = tag })
    → Asks (request_at ask (kept_state before ask.tag)) peer.replies (history_of peer) peer_after.replies (history_of peer_after)
    → faults_after ≡ faults
    → AsksOnce ask (kept_state before ask.tag) peer faults (record { outcome = Some outcome; turn_state = kept_state after tag }) peer_after faults_after
unfolding turned_to
replied ask before after tag outcome peer peer_after faults faults_after takes asks still = record {
  received = Some takes.reading;
  meets = (takes.is_read, asks, still);
  turned_so = ap (λ (r : Refreshed). turned_by r) takes.gives;
}

pub parted : (ask : Ask) (before after : Kept) (tag : Option (List ℕ)) (peer peer_after : PeerState)
    (faults faults_after : ℕ) → after ≡ before → tag ≡ None
    → AsksAtMostOnce (request_at ask (kept_state before ask.tag)) peer.replies (history_of peer) peer_after.replies (history_of peer_after)
    → Rose faults faults_after
    → AsksOnce ask (kept_state before ask.tag) peer faults (record { outcome = None; turn_state = kept_state after tag }) peer_after faults_after
unfolding turned_to
parted ask before after tag peer peer_after faults faults_after stays none once rose = record {
  received = None;
  meets = (once, rose);
  turned_so = λ i. record { outcome = None; turn_state = kept_state (stays i) (none i) };
}
