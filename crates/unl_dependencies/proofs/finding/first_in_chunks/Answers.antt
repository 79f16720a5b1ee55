use Rattle.std.proofs.Common.{List, Some, None, refl, rules}
use Rattle.std.specs.Str.{bytes_eq}
use Rattle.unl_documents.specs.declared.feature.Feature.{Feature}
use Rattle.unl_documents.proofs.FirstPast.{found_here, found_later}
use Rattle.unl_dependencies.proofs.finding.first_in_chunks.Goals as goal

pub returns-in-Some : goal.returns-in-Some
returns-in-Some c =
    let chunk = c.chunk-item.result in
    found_here (λ (f : Feature). bytes_eq f.name c.args.name.now) (λ (r : List Feature). r) c.args.chunks.now c.loop-chunk.chunk-index chunk (Some c.in-Some.feature.now) c.loop-chunk-test.true c.chunk-item.is (search rules) refl c.loop-chunk.invariant

pub loop-chunk-preserved : goal.loop-chunk-preserved
loop-chunk-preserved c =
    let chunk = c.chunk-item.result in
    found_later (λ (f : Feature). bytes_eq f.name c.args.name.now) (λ (r : List Feature). r) c.args.chunks.now c.loop-chunk.chunk-index chunk None c.loop-chunk-test.true c.chunk-item.is (search rules) refl c.loop-chunk.invariant
