use Rattle.std.proofs.Common.{take}
use Rattle.std.specs.Prelude.{filter_map}
use Rattle.unl_compiled.specs.Toggles.{toggle_at}
use Rattle.unl_compiled.proofs.collect.collect_at.Given as goal

abbrev pub invariant-loop-place : goal.invariant-loop-place
invariant-loop-place g l = g.S.ToggleSink.appends (filter_map (toggle_at l.query) (take l.place-index l.places)) l.initial.sink l.sink
