-- Each link (a connection) that the door (the listener) of an edge handed out was served once, by one of the workers.
-- `edition` has the opening board, the first one published (`None` if it is not known). `installs` are the changes of the board by
-- the first turn; the installs of later turns follow them.
use Rattle.std.specs.Prelude.{◌≡◌, ℕ, List, [], ◌∷◌, Option, flat_map, length}
use Rattle.unl_base.specs.Doors.{DoorState}
use Rattle.unl_core.specs.declared.board.Install.{Install}
use Rattle.unl_edge.specs.EdgeServices.{EdgeService, RunsService, WorkConcurrently, EdgeWorker, WorkerServes}
use Rattle.unl_edge.specs.MetricsPassing.{ConservesMetrics}
use Rattle.unl_edge.specs.Polling.{PollsOn, refreshing}
use Rattle.unl_edge_state.specs.Editions.{BoardAt}
use Rattle.unl_refresh.specs.Exchange.{PeerView}
use Rattle.unl_refresh.specs.MetricsQueues.{Intake, no_intake}
use Rattle.unl_refresh.specs.Turns.{Duty, PollState}
use Rattle.unl_server.specs.Links.{LinkView}
use Rattle.unl_workers.specs.Queueing.{HandsOutEach}
use Rattle.unl_workers.specs.Taking.{ServesEach}
use Rattle.unl_workers.specs.Tallies.{SameLinks}

-- Each worker served the links of its share, one after another. The shares and the workers are in the same order.
abbrev pub ServesShares : Option BoardAt → List Install → List (List LinkView) → List EdgeWorker → List EdgeWorker → Type 0
ServesShares edition installs [] [] [] = Unit {0}
ServesShares edition installs (links ∷ shares) (before ∷ begun) (after ∷ ended) =
    ServesEach (WorkerServes edition installs) links before after × ServesShares edition installs shares begun ended
ServesShares edition installs [] [] (after ∷ ended) = ⊥
ServesShares edition installs [] (before ∷ begun) ended = ⊥
ServesShares edition installs (links ∷ shares) [] ended = ⊥
ServesShares edition installs (links ∷ shares) (before ∷ begun) [] = ⊥

-- The door handed out `count` links. Each was served once, by one of the workers, from the state in which it was handed out, and
-- no other link was served. Each answer on each link was computed from the opening board after a list of installs that starts
-- with `installs`.
pub record EachLinkServed
    (edition : Option BoardAt) (installs : List Install) (door door_after : DoorState) (count : ℕ)
    (begun ended : List EdgeWorker) : Type 0 where
  pub given : List LinkView
  pub shares : List (List LinkView)
  pub handed : HandsOutEach (λ (link : LinkView). link.left) (λ (link : LinkView). link.sent) (λ (link : LinkView). link.faults)
      given door door_after
  pub counted : length given ≡ count
  pub served : ServesShares edition installs shares begun ended
  pub same : SameLinks given (flat_map (λ share. share) shares)

-- `workers` workers served links concurrently. Each of the `count` links that the door handed out was served once, by one of them.
pub record WorkOnEachLink
    (workers : ℕ) (edition : Option BoardAt) (installs : List Install) (door door_after : DoorState) (count : ℕ) : Type 0 where
  pub work : WorkConcurrently workers edition installs
  pub each : EachLinkServed edition installs door door_after count work.begun work.ended

-- Workers served links concurrently, each link of the door once, while the poller made further turns. Each metrics book that the
-- workers handed over was either taken by one of these turns or still waits in the queue.
pub record WorkDuringTurns
    (workers : ℕ) (edition : Option BoardAt) (installs : List Install) (duty : Duty) (before after : PollState)
    (door door_after : DoorState) (count : ℕ) : Type 0 where
  pub links : WorkOnEachLink workers edition installs door door_after count
  pub intake : Intake
  pub turns : PollsOn duty (refreshing before no_intake) (refreshing after intake)
  pub metrics : ConservesMetrics links.work.begun links.work.ended intake.taken

-- An edge service ran, and its workers served each link of the door once. Each metrics book that they handed over was either taken
-- by a turn of the poller or still waits in the queue.
pub record ServesEachLink (service : EdgeService) (peer peer_after : PeerView) (door door_after : DoorState) (count : ℕ) : Type 0 where
  pub runs : RunsService service peer peer_after
  pub each : EachLinkServed service.edition runs.installs door door_after count runs.work.begun runs.work.ended
  pub metrics : ConservesMetrics runs.work.begun runs.work.ended runs.polls.ended.intake.taken
