use Rattle.std.proofs.Common.{◌≡◌, true, take}
use Rattle.std.specs.List.{list_all}
use Rattle.unl_compiled.specs.Next.{keeps_place}
use Rattle.unl_compiled.proofs.index_after.keeps_places.Given as goal

abbrev pub invariant-loop-event : goal.invariant-loop-event
invariant-loop-event l = list_all (keeps_place l.parts.features) (take l.event-index l.events) ≡ true
