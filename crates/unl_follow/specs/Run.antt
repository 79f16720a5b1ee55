-- The effect of a run on its endpoints: its peer, its draws and its sink. A run polls a server turn by turn, and prints a line
-- after each turn. A draw is a time and a random word for one turn. In a list of turns the last turn comes first.
use Rattle.std.specs.Prelude.{◌≡◌, ◌≤◌, ℕ, ◌+◌, ◌-◌, ◌^◌, min, List, drop, length, Option, Some, None, option_map}
use Rattle.std.specs.Prelude.{Result, Ok, Err}
use Rattle.unl_base.specs.declared.draws.Draw.{Draw}
use Rattle.unl_base.specs.Draws.{TakesDraw}
use Rattle.unl_base.specs.Peers.{PeerState, history_of}
use Rattle.unl_base.specs.Streams.{Sends, SendsPrefix}
use Rattle.unl_refresh.specs.declared.ask.Ask.{Ask}
use Rattle.unl_refresh.specs.Exchange.{Meets, ReplyOrFault, peer_view}
use Rattle.unl_follow.specs.declared.fault.FollowFault.{FollowFault}
use Rattle.unl_follow.specs.declared.fault.FollowFault.TheVariants.{WriteFault, Memory}
use Rattle.unl_follow.specs.Replica.{Subject}
use Rattle.unl_follow.specs.Turns.{HaveAsked, HaveDrawn, HaveTurned, TurnState, Turn, TurnEffect, follow_text, request_at, turn_line}
use Rattle.unl_follow.specs.Turns.{turned_to}

-- The state of the endpoints of a run: the peer's state (the bytes that were sent on each connection, and the replies to come) and
-- fault count, the upcoming draws, and the bytes that were sent to the sink. What is not observable is `None`.
pub record Endpoints : Type 0 where
  pub peer : PeerState
  pub faults : ℕ
  pub coming : Option (List Draw × Draw)
  pub sent : Option (List ℕ)

-- ---- one turn

-- If `received` is a reply, the request was sent to the peer on a new connection, and `received` was parsed from the next reply of
-- the peer. If `received` is `None`, the peer failed, and at most one connection was made.
abbrev pub MeetsPeer : ReplyOrFault → List ℕ → PeerState → ℕ → PeerState → ℕ → Type 0
MeetsPeer received request peer faults peer_after faults_after =
    Meets received request (peer_view peer faults) (peer_view peer_after faults_after)

-- One request was made in state `turn_state`. `turned` has the outcome of the request and the state after the request.
pub record AsksOnce
    (ask : Ask) (turn_state : TurnState) (peer : PeerState) (faults : ℕ) (turned : TurnEffect) (peer_after : PeerState) (faults_after : ℕ)
    : Type 0 where
  pub received : ReplyOrFault
  pub meets : MeetsPeer received (request_at ask turn_state) peer faults peer_after faults_after
  pub turned_so : turned ≡ turned_to ask.delta turn_state received

-- Turn `number` was made. Its line was sent in full if `Sent` is `Sends`, and a prefix of the line if `Sent` is `SendsPrefix`.
pub record TakesTurn
    (Sent : Option (List ℕ) → List ℕ → Option (List ℕ) → Type 0) (ask : Ask) (subject : Subject) (number : ℕ)
    (turn_state : TurnState) (before : Endpoints) (state_after : TurnState) (after : Endpoints) : Type 0 where
  pub turn : Turn
  pub drawn : TakesDraw before.coming turn.draw after.coming
  pub meets : MeetsPeer turn.received (request_at ask turn_state) before.peer before.faults after.peer after.faults
  pub represents : state_after ≡ (turned_to ask.delta turn_state turn.received).turn_state
  pub sends : Sent before.sent (turn_line subject number turn.draw (turned_to ask.delta turn_state turn.received)) after.sent

-- ---- the run

-- The count rose by at least `m`, or is at its maximum.
abbrev pub RoseBy : ℕ → ℕ → ℕ → Type 0
RoseBy m before now = min (before + m) (2 ^ 64 - 1) ≤ now

-- These turns took the upcoming replies (`taken` of them) and draws in order. Their requests were sent to the peer; where the peer
-- failed (in `failed` turns), perhaps only a prefix of the request, or nothing. The text of the turns' lines was sent to the sink, in
-- full if `Sent` is `Sends`, and a prefix of the text if `Sent` is `SendsPrefix`.
pub record Follows
    (Sent : Option (List ℕ) → List ℕ → Option (List ℕ) → Type 0) (ask : Ask) (subject : Subject) (before : Endpoints)
    (turns : List Turn) (after : Endpoints) : Type 0 where
  pub taken : ℕ
  pub failed : ℕ
  pub turned : HaveTurned before.peer.replies turns taken failed
  pub left : after.peer.replies ≡ option_map (λ list. drop taken list) before.peer.replies
  pub asked : HaveAsked ask (history_of before.peer) turns (history_of after.peer)
  pub counted : RoseBy failed before.faults after.faults
  pub drawn : HaveDrawn before.coming turns after.coming
  pub sends : Sent before.sent (follow_text ask.delta subject turns) after.sent

-- The number of turns is the smaller of `asked` and `more + 1`, where `more` is the number of turns that remain in the pace. The
-- first turn does not wait for the pace. If the pace is not observable, it never ends, and the number of turns is `asked`.
abbrev pub AreAsMany : ℕ → Option ℕ → List Turn → Type 0
AreAsMany asked None turns = length turns ≡ asked
AreAsMany asked (Some more) turns = length turns ≡ min asked (more + 1)

-- How a run ends. On success as many turns were made as `AreAsMany` says, and all their lines were sent. After a failed write,
-- some turns were made, and a prefix of their text was sent. If memory ran out, the whole lines of some turns were sent, and nothing
-- is stated about replies, requests and draws.
abbrev pub Runs : {T : Type 0} → ℕ → Option ℕ → Ask → Subject → Endpoints → Result T FollowFault → Endpoints → Type 0
Runs asked pace ask subject before (Ok done) after =
    (turns : List Turn) × AreAsMany asked pace turns × Follows Sends ask subject before turns after
Runs asked pace ask subject before (Err WriteFault) after =
    (turns : List Turn) × Follows SendsPrefix ask subject before turns after
Runs asked pace ask subject before (Err Memory) after =
    (turns : List Turn) × Sends before.sent (follow_text ask.delta subject turns) after.sent
