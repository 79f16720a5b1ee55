use Rattle.std.proofs.Common.{List, ◌++◌, ap, ◌∙◌}
use Rattle.std.specs.Prelude.{filter}
use Rattle.std.proofs.lemmas.List.Elements.{filter-append}
use Rattle.unl_documents.specs.declared.feature.Feature.{Feature}
use Rattle.unl_tokens.specs.Names.{sees}
use Rattle.unl_delta.proofs.Chunks.{gathers_next}
use Rattle.unl_delta.proofs.answering.push_seen_of_chunks.Goals as goal

pub loop-chunk-preserved : goal.loop-chunk-preserved
loop-chunk-preserved c =
    let seen = λ (fs : List Feature). filter (λ (f : Feature). sees c.args.projects.now f.project) fs in
    gathers_next seen c.args.new.now c.args.chunks.now c.loop-chunk.chunk-index c.chunk-item.result c.loop-chunk.new _ (filter-append _) c.loop-chunk-test.true c.chunk-item.is c.loop-chunk.invariant
    (c.in_ok-push_seen.ensures ∙ ap (λ fs. c.loop-chunk.new ++ seen fs) (c.as_slice.ensures ∙ c.get.ensures))
