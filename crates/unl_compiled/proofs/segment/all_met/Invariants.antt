use Rattle.std.proofs.Common.{◌≡◌, true, take}
use Rattle.std.specs.List.{list_all}
use Rattle.unl_strategies.specs.Strategy.{is_segment_met}
use Rattle.unl_compiled.proofs.segment.all_met.Given as goal

abbrev pub invariant-loop-id : goal.invariant-loop-id
invariant-loop-id l = list_all (is_segment_met l.segments l.context l.now) (take l.id-index l.ids) ≡ true
