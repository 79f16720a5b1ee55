use Rattle.std.proofs.Common.{◌≡◌, map, take, All}
use Rattle.unl_core.specs.DeskStates.{place_at}
use Rattle.unl_delta.specs.Valid.{IsValidPlace}
use Rattle.unl_core.proofs.one_desk.places_at.Given as goal

-- The loop has collected the place of each slot so far, and these places are valid.
abbrev pub invariant-loop-slot : goal.invariant-loop-slot
invariant-loop-slot l = record {
  places : l.places.items ≡ map place_at (take l.slot-index l.slots);
  valid : All IsValidPlace l.places.items;
}
