use Rattle.std.proofs.Common.{◌≡◌, map, take}
use Rattle.unl_upstream.specs.Upstream.{opening_slot}
use Rattle.unl_upstream.proofs.upstream.opening_slots.Given as goal

abbrev pub invariant-loop-environment : goal.invariant-loop-environment
invariant-loop-environment l = l.slots.items ≡ map (opening_slot l.epoch) (take l.environment-index l.environments)
