-- The state of a door over the network, and when it closes. A connection waits for its client until it is ready to be handed
-- out as a link.
use Rattle.std.specs.Prelude.{◌≡◌, ◌≤◌, ◌+◌, ◌-◌, ◌^◌, ◌||◌, ℕ, List, [], Option, Some, None, Result, Ok, Err}
use Rattle.std.specs.Prelude.{is_some, nat_eq, nat_le, true}
use Rattle.std.specs.VecDeque.{deque_len}
use Rattle.slab.specs.Slab.{Slab, slab_len}
use Rattle.unl_base.specs.Doors.{DoorState}
use Rattle.unl_net.specs.declared.counts.Counts.{Counts}
use Rattle.unl_net.specs.declared.listener.Accepting.{Accepting}
use Rattle.unl_net.specs.declared.reactor.Reactor.{Reactor}

-- The state of the door as the contracts of the trait `Door` see it. It is closed once its last link has been handed out, or once 2^64 - 1
-- links have been. The bytes that its links read and write are not observable.
abbrev pub door_state : List ℕ → Counts → DoorState
door_state ports counts = record {
  ports = ports;
  closed = counts.closed || nat_eq counts.handed_out (2 ^ 64 - 1);
  given = counts.handed_out;
  back = counts.taken_back;
  links = None;
  returned = None;
}

-- The link that was just handed out is the last one: all connections that the bound allows were accepted, and none of them waits or is
-- ready.
pub record IsLastLink {A : Type 0} (accepting : Accepting) (waiting : Slab A) (ready : List A) : Type 0 where
  pub all : accepting.bound ≤ accepting.accepted
  pub none_waits : slab_len waiting ≡ 0
  pub none_ready : ready ≡ []

-- no further link comes: no more connections are accepted, and none waits or is ready
pub record IsFinished {A : Type 0} (accepting : Accepting) (waiting : Slab A) (ready : List A) : Type 0 where
  pub done : (is_some accepting.fault || nat_le accepting.bound accepting.accepted) ≡ true
  pub none_waits : slab_len waiting ≡ 0
  pub none_ready : ready ≡ []

-- how many connections a door holds: those that wait and those that are ready
abbrev pub held_by : {S : Type 0} → Option (Reactor S) → ℕ
held_by None = 0
held_by (Some reactor) = slab_len reactor.waiting + deque_len reactor.ready

-- how many connections a door has counted as ended
abbrev pub ended_by : {S : Type 0} → Option (Reactor S) → ℕ
ended_by None = 0
ended_by (Some reactor) = reactor.ended

-- `held`, the number of connections that a door holds, plus one if a call handed one out as a link
abbrev pub with_link : {L E : Type 0} → Result L E → ℕ → ℕ
with_link (Ok link) held = held + 1
with_link (Err fault) held = held

-- the same for a call that may succeed without a link
abbrev pub with_link_if_any : {L E : Type 0} → Result (Option L) E → ℕ → ℕ
with_link_if_any (Ok None) held = held
with_link_if_any (Ok (Some link)) held = held + 1
with_link_if_any (Err fault) held = held
