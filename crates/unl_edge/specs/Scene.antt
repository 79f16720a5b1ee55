-- The states of the program's endpoints. A field that is an `Option` is `None` if it is not observable, as with real sockets and files.
use Rattle.std.specs.Prelude.{◌≡◌, ◌⊎◌, ℕ, List, Option}
use Rattle.unl_base.specs.Doors.{DoorState}
use Rattle.unl_base.specs.Faults.{Rose}
use Rattle.unl_base.specs.Peers.{PeerState}
use Rattle.unl_base.specs.declared.draws.Draw.{Draw}
use Rattle.unl_keeper.specs.State.{MakerState}

-- the input: the bytes to come, and the count of its faults
pub record InputEnd : Type 0 where
  pub left : Option (List ℕ)
  pub faults : ℕ

-- the output: the bytes sent, and the count of its faults
pub record OutputEnd : Type 0 where
  pub sent : Option (List ℕ)
  pub faults : ℕ

-- the door, which accepts connections: the ports that it listened at, whether it is closed, its links (to come, handed out and taken
-- back), and the count of its faults
pub record DoorEnd : Type 0 where
  pub state : DoorState
  pub faults : ℕ

-- the peer, the connection to the server that is polled: whether it is open, the bytes still to be read, the bytes sent on it and on each
-- earlier connection, the bytes that each later connection gives to its reader, and the count of its faults
pub record PeerEnd : Type 0 where
  pub state : PeerState
  pub faults : ℕ

-- The state of all endpoints: the four above; the draws to come (each a time and a random word); the number of turns that the pace, which
-- delays each turn after the first, still has; the count of faults of the spawner, which starts threads; and the maker of keepers (stores
-- of an upstream's commands): the rows of the keeper that the maker got back last, and the count of the maker's faults.
pub record Scene : Type 0 where
  pub input : InputEnd
  pub output : OutputEnd
  pub door : DoorEnd
  pub draws : Option (List Draw × Draw)
  pub peer : PeerEnd
  pub pace : Option ℕ
  pub spawner : ℕ
  pub keep : MakerState

-- the door failed, or a thread could not be started: the fault count of the door or of the spawner rose
abbrev pub ServingFailed : Scene → Scene → Type 0
ServingFailed before after = Rose before.door.faults after.door.faults ⊎ Rose before.spawner after.spawner

-- ---- the endpoints that a command leaves unchanged

-- only the input and the output changed
abbrev pub ChangesStreams : Scene → Scene → Type 0
ChangesStreams before after = after ≡ record before { input = after.input; output = after.output }

-- only the output changed
abbrev pub ChangesOutput : Scene → Scene → Type 0
ChangesOutput before after = after ≡ record before { output = after.output }

-- what the command `follow` may change: the output, the peer, the draws and the pace
abbrev pub ChangesForReplica : Scene → Scene → Type 0
ChangesForReplica before after =
    after ≡ record before { output = after.output; peer = after.peer; draws = after.draws; pace = after.pace }

-- what the command `upstream` may change: the input, the output, the door, the draws and the maker of keepers
abbrev pub ChangesForUpstream : Scene → Scene → Type 0
ChangesForUpstream before after = after ≡ record after { peer = before.peer; pace = before.pace; spawner = before.spawner }

-- what the command `edge` may change: all but the input and the maker of keepers
abbrev pub ChangesForEdge : Scene → Scene → Type 0
ChangesForEdge before after = after ≡ record after { input = before.input; keep = before.keep }
