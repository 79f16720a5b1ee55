use Rattle.std.proofs.Common.{take}
use Rattle.std.specs.Prelude.{filter_map}
use Rattle.unl_compiled.specs.Toggles.{toggle_if_seen}
use Rattle.unl_compiled.proofs.collect.collect_chunk.Given as goal

abbrev pub invariant-loop-feature : goal.invariant-loop-feature
invariant-loop-feature g l = g.S.ToggleSink.appends (filter_map (toggle_if_seen l.query) (take l.feature-index l.fn.chunk)) l.initial.sink l.sink
