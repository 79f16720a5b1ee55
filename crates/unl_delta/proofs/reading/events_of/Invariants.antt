use Rattle.std.proofs.Common.{◌≡◌, drop}
use Rattle.std.specs.List.{AllByRecursion}
use Rattle.serde_json.specs.View.{items_view}
use Rattle.unl_delta.specs.Reading.{events_from}
use Rattle.unl_delta.specs.Valid.{IsValidEvent}
use Rattle.unl_delta.proofs.Going.{with_prefix}
use Rattle.unl_delta.proofs.reading.events_of.Given as goal

abbrev pub invariant-loop-place : goal.invariant-loop-place
invariant-loop-place l = record {
  so_far : with_prefix l.events (events_from l.place l.before (items_view (drop l.place l.values))) ≡ events_from 0 0 (items_view l.values);
  valid : AllByRecursion IsValidEvent l.events;
}
