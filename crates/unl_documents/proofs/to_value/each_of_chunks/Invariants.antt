use Rattle.std.proofs.Common.{◌≡◌, map, take}
use Rattle.serde_json.specs.View.{view}
use Rattle.unl_documents.specs.Chunks.{joined}
use Rattle.unl_documents.proofs.to_value.each_of_chunks.Given as goal

abbrev pub invariant-loop-chunk : goal.invariant-loop-chunk
invariant-loop-chunk g l = map view l.values.items ≡ map g.W.ToValue.written (joined (take l.chunk-index l.chunks))
