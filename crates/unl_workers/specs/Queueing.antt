-- The links that a door handed out and that were put into a queue. `left`, `sent` and `faults` return the bytes that can still be read from
-- a link, the bytes it has sent, and its fault count. A pass is the right of one thread to use the queue; its tally has the links that
-- the thread put and took.
use Rattle.std.specs.Prelude.{◌≡◌, ℕ, List, [], ◌∷◌, ◌++◌, Option, length}
use Rattle.unl_base.specs.Doors.{DoorState, IsOpenDoor, IsFresh, handing_out}
use Rattle.unl_workers.specs.Tallies.{tally}
use Rattle.unl_workers.specs.declared.tally.QueueTally.{QueueTally}

module _ {L : Type 0} (left sent : L → Option (List ℕ)) (faults : L → ℕ) where
  -- an open door handed out these links, one after another: each has the bytes that the door's state lists for it, and no sent bytes or
  -- faults
  abbrev pub HandsOutEach : List L → DoorState → DoorState → Type 0
  HandsOutEach [] before after = after ≡ before
  HandsOutEach (link ∷ links) before after = (middle : DoorState) × IsOpenDoor before × (middle ≡ handing_out middle.closed before)
      × IsFresh before (left link) (sent link) (faults link) × HandsOutEach links middle after

  -- These links were handed out, and exactly these were put into the queue. `may_put` is 1 if the pass may put more links afterwards, and
  -- 0 otherwise.
  pub record QueuesLinks
      (may_put : ℕ) (links : List L) (view_before : QueueTally L) (before : DoorState) (view_after : QueueTally L) (after : DoorState)
      : Type 0 where
    pub put : view_after ≡ tally view_before.parts (view_before.put ++ links) view_before.taken may_put view_before.ends_seen
    pub handed : HandsOutEach links before after

  -- `count` links were handed out and put into the queue; `may_put` as above
  abbrev pub QueuesAll : ℕ → ℕ → QueueTally L → DoorState → QueueTally L → DoorState → Type 0
  QueuesAll may_put count view_before before view_after after =
      (links : List L) × QueuesLinks may_put links view_before before view_after after × (length links ≡ count)
