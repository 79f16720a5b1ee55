use Rattle.std.proofs.Common.{◌≡◌, drop}
use Rattle.unl_delta.specs.State.{IsInOrder, fold_events}
use Rattle.unl_compiled.proofs.parts.fold_all.Given as goal

abbrev pub invariant-loop-event : goal.invariant-loop-event
invariant-loop-event l = record {
  order : IsInOrder l.now;
  rest : fold_events (drop l.event-index l.events) l.now ≡ fold_events l.events l.initial.now;
}
