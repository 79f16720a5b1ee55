-- How the command `edge` ends. It polls an upstream and serves the links of a door. Once the door is closed, it prints its last line: the
-- number of links that the door handed out.
use Rattle.std.specs.Prelude.{◌≡◌, ◌⊎◌, ℕ, ◌+◌, ◌<◌, ◌≤◌, true, List, Option, option_map, drop, length, IfSome, Result, Ok, Err}
use Rattle.unl_base.specs.Doors.{IsClosedAt, ListenedOnlyAt, ServedOnlyAt, listening_at}
use Rattle.unl_base.specs.Draws.{TakesDraw}
use Rattle.unl_base.specs.Streams.{Sends, SendsPrefix}
use Rattle.unl_base.specs.declared.draws.Draw.{Draw}
use Rattle.unl_edge.specs.Scene.{Scene}
use Rattle.unl_edge.specs.EdgeLinks.{ServesEachLink}
use Rattle.unl_edge.specs.EdgeServices.{EdgeService, service_of}
use Rattle.unl_server.specs.Handling.{Coming}
use Rattle.unl_refresh.specs.Connects.{Connects}
use Rattle.unl_refresh.specs.Exchange.{peer_view}
use Rattle.unl_upstream.specs.Ends.{connections_line}
use Rattle.unl_upstream.specs.declared.ends.ServingEnd.{ServingEnd}
use Rattle.unl_upstream.specs.declared.ends.ServingEnd.TheVariants.{Closed, WriteFault, DoorFault, OutOfMemory}
use Rattle.unl_words.specs.declared.words.EdgeArguments.{EdgeArguments}
use Rattle.unl_workers.specs.declared.acceptor.AcceptOutcome.{AcceptOutcome}
use Rattle.unl_workers.specs.declared.pool.PoolOutcome.{PoolOutcome}
use Rattle.unl_workers.specs.declared.pool.PoolFault.{PoolFault}

-- `Connects 0` holds from one state of a peer to a later one if the fault count didn't fall and, unless it rose, the replies to come are
-- a suffix of the earlier ones. Here: if `Connects 0` holds from any first state to the state with `replies` and `faults`, it also holds
-- from that first state to the state with `replies_after` and `faults_after`.
abbrev pub KeepsConnects :
    (replies : Option (List (List ℕ))) (faults : ℕ) (replies_after : Option (List (List ℕ))) (faults_after : ℕ) → Type 0
KeepsConnects replies faults replies_after faults_after =
    (first : Option (List (List ℕ))) (faults_first : ℕ) → Connects 0 first faults_first replies faults
    → Connects 0 first faults_first replies_after faults_after

-- Unless the peer of the scene failed, at least `least` connections were made to it.
abbrev pub AsksPeer : ℕ → Scene → Scene → Type 0
AsksPeer least before after = Connects least before.peer.state.replies before.peer.faults after.peer.state.replies after.peer.faults

-- the outcome of accepting links in the result of a worker pool, or the fault that kept the pool from running
abbrev pub accepted_in : {S R : Type 0} → Result (PoolOutcome S R) PoolFault → Result AcceptOutcome PoolFault
accepted_in (Ok outcome) = Ok outcome.accepted
accepted_in (Err fault) = Err fault

-- The door handed out its next `served` links. No link was given back to the door: the worker that serves a link drops it. Nothing of
-- the input was read.
pub record HandsLinks (served : ℕ) (before after : Scene) : Type 0 where
  pub given : after.door.state.given ≡ before.door.state.given + served
  pub had : IfSome before.door.state.links (λ list. served ≤ length list)
  pub none_back : after.door.state.back ≡ before.door.state.back
  pub left : after.door.state.links ≡ option_map (λ list. drop served list) before.door.state.links
  pub unread : after.input.left ≡ before.input.left

-- Unless the peer failed, it was asked for the book and for each slot at least once. The turns were made as `PollsUpstream` says. After the
-- first turn, with the door listening at this port, `served` links were handed out, and each was served once, by one of the workers.
abbrev pub IsServed : EdgeService → ℕ → ℕ → Scene → Scene → Type 0
IsServed service port served before after = AsksPeer (length service.opening.places + 1) before after
    × ServesEachLink service (peer_view before.peer.state before.peer.faults) (peer_view after.peer.state after.peer.faults)
    (listening_at port true before.door.state) after.door.state served

-- Memory ran out before the first link was handed out, and nothing was sent. The door listened once, at this port, or not at all.
abbrev pub StopsEarly : ℕ → Scene → Scene → Type 0
StopsEarly port before after =
    HandsLinks 0 before after × ListenedOnlyAt port before.door.state after.door.state × (after.output.sent ≡ before.output.sent)

-- The door was closed, and then memory ran out before the last line could be printed. Nothing was sent.
abbrev pub StopsAtLine : EdgeService → ℕ → Scene → Scene → Type 0
StopsAtLine service port before after =
    (served : ℕ) × HandsLinks served before after × IsServed service port served before after
    × (after.output.sent ≡ before.output.sent) × IsClosedAt port before.door.state after.door.state

-- How an edge ends, by its outcome. Its door is to listen at this port.
-- `Closed`: the door listened once at the port and was closed. The edge served each link once (`IsServed`) and sent the last line.
-- `WriteFault`: as `Closed`, but only a prefix of the last line was sent, because the output failed.
-- `DoorFault`: the door failed, or a thread couldn't be started. Nothing was sent. If links were handed out, `IsServed` holds.
-- `OutOfMemory`: memory ran out before the first link, or when the last line was to be printed. Nothing was sent.
abbrev pub EdgeEnds : EdgeService → ℕ → ServingEnd → Scene → Scene → Type 0
EdgeEnds service port Closed before after =
    (served : ℕ) × HandsLinks served before after × IsServed service port served before after
    × Sends before.output.sent (connections_line served) after.output.sent
    × IsClosedAt port before.door.state after.door.state
EdgeEnds service port WriteFault before after =
    (served : ℕ) × HandsLinks served before after × IsServed service port served before after
    × SendsPrefix before.output.sent (connections_line served) after.output.sent
    × IsClosedAt port before.door.state after.door.state
EdgeEnds service port DoorFault before after =
    (served : ℕ) × HandsLinks served before after × (0 < served → IsServed service port served before after)
    × ServedOnlyAt port served before.door.state after.door.state × (after.output.sent ≡ before.output.sent)
EdgeEnds service port OutOfMemory before after = StopsEarly port before after ⊎ StopsAtLine service port before after

-- an edge with these arguments took a draw, whose random word is the boot number, and ended with `end`
pub record RunsEdge (words : EdgeArguments) (end : ServingEnd) (before after : Scene) : Type 0 where
  pub draw : Draw
  pub coming : Coming
  pub taken : TakesDraw before.draws draw coming
  pub ends : EdgeEnds (service_of words draw.word) words.port end (record before { draws = coming }) after

-- how an edge with these arguments ends; if memory ran out before the first link was handed out, nothing is said of the draw
abbrev pub EdgeRuns : EdgeArguments → ServingEnd → Scene → Scene → Type 0
EdgeRuns words Closed before after = RunsEdge words Closed before after
EdgeRuns words WriteFault before after = RunsEdge words WriteFault before after
EdgeRuns words DoorFault before after = RunsEdge words DoorFault before after
EdgeRuns words OutOfMemory before after = StopsEarly words.port before after ⊎ RunsEdge words OutOfMemory before after
