-- The turns of an edge's poller, which makes one round of requests to the upstream in each turn: the first, and those that follow while
-- the edge's workers serve links.
use Rattle.std.specs.Prelude.{◌≡◌, ◌⊎◌, ◌<◌, ◌≤◌, ◌+◌, ◌-◌, ◌^◌, ℕ, length}
use Rattle.unl_delta.specs.Installing.{Installed}
use Rattle.unl_metrics.specs.Book.{Book}
use Rattle.unl_refresh.specs.Exchange.{PeerView}
use Rattle.unl_refresh.specs.MetricsQueues.{Intake, Merges, Receiving, no_intake}
use Rattle.unl_refresh.specs.Turns.{Duty, MakesTurn, PollState, StopsInTurn, poll_state}
use Rattle.unl_workers.specs.Periodic.{Turns}

-- The fixed parameters of a poller are unchanged: its tokens, the number of its slots and their request parameters, and its upstream.
pub record SameWork (before after : Duty) : Type 0 where
  pub known : after.known ≡ before.known
  pub slots : after.slots ≡ before.slots
  pub slot_pollers : after.slot_pollers ≡ before.slot_pollers
  pub upstream : after.upstream ≡ before.upstream

-- A turn was made, or it stopped because memory ran out. Nothing is said if the front (the number of installs) is so near 2^64 - 1 that
-- one install for the token book and one for each slot could reach that number, or if the poller has more slots than the board has places
-- (one for each slot of the board).
abbrev pub TurnEnds : Duty → PollState → PollState → Type 0
TurnEnds duty before after =
    before.installed.front + duty.slots + 1 < 2 ^ 64 - 1 → duty.slots ≤ length before.installed.places
    → MakesTurn duty.known duty.upstream duty.slot_pollers before after
    ⊎ StopsInTurn duty.known duty.upstream duty.slot_pollers before after

-- what later turns change: what each turn changes, and the metrics books that the poller has taken from the workers
pub record Refreshing : Type 0 where
  pub poll : PollState
  pub intake : Intake

-- a constructor of `Refreshing`
abbrev pub refreshing : PollState → Intake → Refreshing
refreshing poll intake = record { poll = poll; intake = intake }

-- A later turn: books were taken from the workers and added to the metrics that are not sent yet (the last book may be left for the next
-- turn), and then the turn was made or stopped (`TurnEnds`).
pub record LaterTurn (duty : Duty) (before after : Refreshing) : Type 0 where
  pub metrics : Book
  pub merges : Merges before.poll.metrics before.intake metrics after.intake
  pub ends : TurnEnds duty (record before.poll { metrics = metrics }) after.poll

-- A receiver of metrics may have taken books. The rest of its state is unchanged.
abbrev pub KeepsReceiver : Receiving → Receiving → Type 0
KeepsReceiver before after = after ≡ record before { intake = after.intake }

-- Any number of later turns, possibly none, were made one after another.
pub record PollsOn (duty : Duty) (before after : Refreshing) : Type 0 where
  pub turns : ℕ
  pub made : Turns (LaterTurn duty) turns before after

-- All turns of a poller. The first begins with the installed state `opening`, the poller's entity tags and metrics, and the peer's state
-- `peer`. It ends with the installed state `first`. Then the later turns follow. No books were taken from the workers before them. The last
-- turn ends with the peer's state `peer_after`, so nothing was sent to the peer outside of these turns. Each later turn has the effect
-- `TurnEnds`, with the exceptions named there.
pub record PollsUpstream (duty : Duty) (opening : Installed) (peer : PeerView) (first : Installed) (peer_after : PeerView) : Type 0 where
  pub begun : PollState
  pub installed : begun.installed ≡ first
  pub turn : MakesTurn duty.known duty.upstream duty.slot_pollers (poll_state opening duty.tags duty.metrics peer) begun
  pub ended : Refreshing
  pub later : PollsOn duty (refreshing begun no_intake) ended
  pub peer_ended : ended.poll.peer ≡ peer_after
