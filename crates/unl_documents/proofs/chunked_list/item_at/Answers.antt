use Rattle.std.proofs.Common.{◌≡◌, ◌≤◌, ◌<◌, ◌∙◌, ap, length}
use Rattle.std.specs.Prelude.{slice_get}
use Rattle.unl_documents.proofs.Joined.{in_current_list, in_later_list}
use Rattle.unl_documents.proofs.chunked_list.item_at.Goals as goal

pub returns-then-left-count : goal.returns-then-left-count
returns-then-left-count g c =
    let chunk = c.chunk-item.result in
    let inside : c.loop-chunk.left < length chunk = rw (← c.get.ensures, ← c.len-count.ensures) c.if-left-count.true in
    c.item_of.ensures ∙ ap (λ items. slice_get items c.loop-chunk.left) c.get-then-left-count.ensures
    ∙ in_current_list c.args.chunks.now c.loop-chunk.chunk-index chunk c.loop-chunk.left _ c.loop-chunk-test.true c.chunk-item.is inside c.loop-chunk.invariant

pub loop-chunk-preserved : goal.loop-chunk-preserved
loop-chunk-preserved g c =
    let chunk = c.chunk-item.result in
    let count : c.len-count.result ≡ length chunk = c.len-count.ensures ∙ ap length c.get.ensures in
    let past : length chunk ≤ c.loop-chunk.left = rw (← count) c.if-left-count.false in
    rw count (in_later_list c.args.chunks.now c.loop-chunk.chunk-index chunk c.loop-chunk.left _ c.loop-chunk-test.true c.chunk-item.is past c.loop-chunk.invariant)
