use Rattle.std.proofs.Common.{◌≡◌, take}
use Rattle.unl_edge_state.proofs.beginning.copies_of.Given as goal

-- The copies so far are equal to the slots before the current one.
abbrev pub invariant-loop-slot : goal.invariant-loop-slot
invariant-loop-slot l = l.copies.items ≡ take l.slot-index l.slots
