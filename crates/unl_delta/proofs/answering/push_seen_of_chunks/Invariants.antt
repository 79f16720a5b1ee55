use Rattle.std.proofs.Common.{◌≡◌, ◌++◌, take}
use Rattle.std.specs.Prelude.{filter}
use Rattle.unl_documents.specs.declared.feature.Feature.{Feature}
use Rattle.unl_documents.specs.Chunks.{joined}
use Rattle.unl_tokens.specs.Names.{sees}
use Rattle.unl_delta.proofs.answering.push_seen_of_chunks.Given as goal

abbrev pub invariant-loop-chunk : goal.invariant-loop-chunk
invariant-loop-chunk l = l.new ≡ l.initial.new ++ filter (λ (f : Feature). sees l.projects f.project) (joined (take l.chunk-index l.chunks))
