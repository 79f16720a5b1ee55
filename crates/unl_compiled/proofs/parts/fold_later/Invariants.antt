use Rattle.std.proofs.Common.{◌≡◌, drop}
use Rattle.unl_delta.specs.State.{IsInOrder, fold_events, later, number_of}
use Rattle.unl_compiled.proofs.parts.fold_later.Given as goal

abbrev pub invariant-loop-event : goal.invariant-loop-event
invariant-loop-event l = record {
  order : IsInOrder l.now;
  rest : fold_events (later number_of l.above (drop l.event-index l.events)) l.now ≡ fold_events (later number_of l.above l.events) l.initial.now;
}
