use Rattle.std.proofs.Common.{rules, ap, sym, ◌∙◌, List}
use Rattle.std.specs.Prelude.{flat_map, nat_lt}
use Rattle.std.specs.List.{find}
use Rattle.std.proofs.lemmas.List.{drop_all}
use Rattle.unl_documents.specs.declared.feature.Feature.{Feature}
use Rattle.unl_documents.specs.Inline.{counts}
use Rattle.unl_documents.proofs.FirstPast.{found_here, found_later}
use Rattle.unl_documents.proofs.Joined.{flat_map_joined}
use Rattle.unl_documents.proofs.excess.first_excess_in.Goals as goal

pub returns-then-is_some : goal.returns-then-is_some
returns-then-is_some c =
    let each = λ (chunk : List Feature). flat_map (λ f. counts c.args.segments.now f.strategies) chunk in
    found_here (nat_lt 100) each c.args.chunks.now c.loop-chunk.chunk-index c.chunk-item.result c.in_ok-found.found c.loop-chunk-test.true c.chunk-item.is (search rules) (search rules) c.loop-chunk.invariant
    ∙ ap (find (nat_lt 100)) (sym (flat_map_joined (λ f. counts c.args.segments.now f.strategies) c.args.chunks.now))

pub loop-chunk-preserved : goal.loop-chunk-preserved
loop-chunk-preserved c =
    let each = λ (chunk : List Feature). flat_map (λ f. counts c.args.segments.now f.strategies) chunk in
    found_later (nat_lt 100) each c.args.chunks.now c.loop-chunk.chunk-index c.chunk-item.result c.in_ok-found.found c.loop-chunk-test.true c.chunk-item.is (search rules) (search rules) c.loop-chunk.invariant

pub returns : goal.returns
returns c =
    let each = λ (chunk : List Feature). flat_map (λ f. counts c.args.segments.now f.strategies) chunk in
    ap (λ rest. find (nat_lt 100) (flat_map each rest)) (sym (drop_all c.loop-chunk.chunk-index c.args.chunks.now c.loop-chunk-test.false)) ∙ c.loop-chunk.invariant
    ∙ ap (find (nat_lt 100)) (sym (flat_map_joined (λ f. counts c.args.segments.now f.strategies) c.args.chunks.now))
