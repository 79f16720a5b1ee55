use Rattle.std.proofs.Common.{drop, take}
use Rattle.std.specs.Prelude.{All, filter_map}
use Rattle.unl_compiled.specs.Toggles.{toggle_if_seen}
use Rattle.unl_documents.specs.Chunks.{joined}
use Rattle.unl_documents.specs.Valid.{IsValidFeature}
use Rattle.unl_compiled.proofs.collect.collect_seen.Given as goal

abbrev pub invariant-loop-chunk : goal.invariant-loop-chunk
invariant-loop-chunk g l = record {
  valid : All IsValidFeature (joined (drop l.chunk-index l.chunks));
  appended : g.S.ToggleSink.appends (filter_map (toggle_if_seen l.query) (joined (take l.chunk-index l.chunks))) l.initial.sink l.sink;
}
