use Rattle.std.proofs.Common.{◌≡◌, drop}
use Rattle.unl_documents.specs.Chunks.{joined}
use Rattle.unl_dependencies.specs.Evaluation.{feature_named}
use Rattle.unl_dependencies.proofs.finding.first_in_chunks.Given as goal

abbrev pub invariant-loop-chunk : goal.invariant-loop-chunk
invariant-loop-chunk l = feature_named l.name (joined (drop l.chunk-index l.chunks)) ≡ feature_named l.name (joined l.chunks)
