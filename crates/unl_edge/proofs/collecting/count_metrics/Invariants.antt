use Rattle.std.proofs.Common.{◌≡◌, ◌+◌, ◌++◌, length}
use Rattle.std.specs.Prelude.{All, flat_map}
use Rattle.unl_edge.specs.WorkerBooks.{HandsTo, handed_at}
use Rattle.unl_edge.proofs.collecting.count_metrics.Given as goal

-- the receiver has the parts and the handed-over books of the senders that it took back so far, and the other slots remain
abbrev pub invariant-loop-pool_slot : goal.invariant-loop-pool_slot
invariant-loop-pool_slot g l = record {
  kept : l.receiver ≡ record l.initial.receiver { parts = l.receiver.parts; handed = l.receiver.handed };
  parts : l.receiver.parts + length l.pool_slot-iterator.rest.items
      ≡ l.initial.receiver.parts + length l.initial.pool_slot-iterator.rest.items;
  handed : l.receiver.handed ++ flat_map handed_at l.pool_slot-iterator.rest.items
      ≡ flat_map handed_at l.initial.pool_slot-iterator.rest.items;
  queue : All (HandsTo l.initial.receiver) l.pool_slot-iterator.rest.items;
}
