use Rattle.std.proofs.Common.{◌≡◌, map, take}
use Rattle.unl_explain.specs.Reasons.{segment_reason}
use Rattle.unl_explain.proofs.strategies.explain_segments.Given as goal

abbrev pub invariant-loop-id : goal.invariant-loop-id
invariant-loop-id l = l.reasons ≡ map (segment_reason l.segments l.context l.now) (take l.id-index l.ids)
