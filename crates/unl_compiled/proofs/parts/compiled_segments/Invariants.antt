use Rattle.std.proofs.Common.{◌≡◌, take}
use Rattle.unl_compiled.proofs.parts.compiled_segments.Given as goal

abbrev pub invariant-loop-segment : goal.invariant-loop-segment
invariant-loop-segment l = l.all ≡ take l.segment-index l.segments
