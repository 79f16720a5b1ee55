-- How a connection ends while the door holds it, that is, while no worker serves it as a link, and how such ends are counted.
use Rattle.std.specs.Prelude.{◌≡◌, ◌<◌, ◌≤◌, ◌+◌, ◌-◌, ◌^◌, ℕ, ⊤, Option, Some, None, min, nat_le, true}
use Rattle.std.specs.declared.time.Instant.{Instant}
use Rattle.unl_net.specs.Moments.{seconds_between}
use Rattle.unl_net.specs.Phases.{limit_of}
use Rattle.unl_net.specs.declared.cuts.Cut.{Cut}
use Rattle.unl_net.specs.declared.cuts.Cut.TheVariants.{SlowRequest, SlowReader, Room, Memory}
use Rattle.unl_net.specs.declared.cuts.Cuts.{Cuts}
use Rattle.unl_net.specs.declared.cuts.EndReason.{EndReason}
use Rattle.unl_net.specs.declared.cuts.EndReason.TheVariants.{Done, Failed, Late, CutOff, DoorEnds}
use Rattle.unl_net.specs.declared.phase.Phase.{Phase}
use Rattle.unl_net.specs.declared.phase.Phase.TheVariants.{Idle, Receiving, Ready, Sending, Draining, Over}

-- A connection that has been in this phase since that moment may end for this reason. `now` is when the time was checked, and `began` when
-- accepting failed for good: the door ends its connections at least 30 seconds later.
abbrev pub MayEnd : EndReason → Phase → Option Instant → Type 0
MayEnd Done phase since = phase ≡ Over
MayEnd (Failed fault) phase since = ⊤
MayEnd (Late now) phase since = nat_le (limit_of phase) (seconds_between since now) ≡ true
MayEnd (CutOff cut) phase since = ⊤
MayEnd (DoorEnds began now) phase since = nat_le 30 (seconds_between began now) ≡ true

-- the cause that is counted for a connection whose time in this phase is over; only in `Receiving` and `Sending` is it counted as cut off
abbrev pub late_cut : Phase → Option Cut
late_cut Idle = None
late_cut Receiving = Some SlowRequest
late_cut Ready = None
late_cut Sending = Some SlowReader
late_cut Draining = None
late_cut Over = None

-- the cause that is counted for a connection that ends for this reason in this phase, if it counts as cut off
abbrev pub cut_of : EndReason → Phase → Option Cut
cut_of Done phase = None
cut_of (Failed fault) phase = None
cut_of (Late now) phase = late_cut phase
cut_of (CutOff cut) phase = Some cut
cut_of (DoorEnds began now) phase = None

-- the counts with one more connection that was cut off for this cause; each stops at the largest u64
abbrev pub with_cut : Cut → Cuts → Cuts
with_cut SlowRequest cuts = record cuts { slow_requests = min (cuts.slow_requests + 1) (2 ^ 64 - 1) }
with_cut SlowReader cuts = record cuts { slow_readers = min (cuts.slow_readers + 1) (2 ^ 64 - 1) }
with_cut Room cuts = record cuts { room = min (cuts.room + 1) (2 ^ 64 - 1) }
with_cut Memory cuts = record cuts { memory = min (cuts.memory + 1) (2 ^ 64 - 1) }

-- the counts after a connection ended: one more if it was cut off for some cause
abbrev pub with_cut_if_any : Option Cut → Cuts → Cuts
with_cut_if_any None cuts = cuts
with_cut_if_any (Some cut) cuts = with_cut cut cuts

-- No connection is lost between two moments: each that was held at the first, and each of the `more` that came since, is held at the second
-- or was counted as ended. `held` is how many wait or are ready at the first, and `ended` how many were counted as ended by then;
-- `held_now` and `ended_now` are these numbers at the second. Once the count of those that ended has stopped at the largest u64, nothing
-- is said.
unfoldable pub Accounts : ℕ → ℕ → ℕ → ℕ → ℕ → Type 0
Accounts more held ended held_now ended_now =
    ended_now < 2 ^ 64 - 1 → (ended ≤ ended_now) × (held_now + ended_now ≡ held + ended + more)

-- The same, with the increase of the count `arrived` as the number of connections that came. Once that count has stopped at the largest
-- u64, nothing is said.
unfoldable pub LosesNone : ℕ → ℕ → ℕ → ℕ → ℕ → ℕ → Type 0
LosesNone arrived held ended arrived_now held_now ended_now =
    arrived_now < 2 ^ 64 - 1 → (arrived ≤ arrived_now) × Accounts (arrived_now - arrived) held ended held_now ended_now
