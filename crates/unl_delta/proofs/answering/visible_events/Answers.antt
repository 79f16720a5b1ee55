use Rattle.std.proofs.Common.{List, [], ◌++◌, ap, ◌∙◌}
use Rattle.std.proofs.lemmas.List.Elements.{filter_map-append}
use Rattle.unl_delta.specs.declared.event.Entry.{Entry}
use Rattle.unl_delta.specs.State.{entry_number, later}
use Rattle.unl_delta.specs.View.{visible_events}
use Rattle.unl_tokens.specs.Names.{sees}
use Rattle.unl_delta.proofs.Numbers.{later_append}
use Rattle.unl_delta.proofs.Chunks.{gathers_next}
use Rattle.unl_delta.proofs.answering.visible_events.Goals as goal

pub loop-chunk-preserved : goal.loop-chunk-preserved
loop-chunk-preserved c =
    let news = λ (entries : List Entry). visible_events (sees c.args.projects.now) (later entry_number c.args.since entries) in
    gathers_next news [] c.args.chunks.now c.loop-chunk.chunk-index c.chunk-item.result c.loop-chunk.events _
    (λ xs ys. ap (visible_events (sees c.args.projects.now)) (later_append entry_number c.args.since xs ys) ∙ filter_map-append _ (later entry_number c.args.since xs) (later entry_number c.args.since ys))
    c.loop-chunk-test.true c.chunk-item.is c.loop-chunk.invariant
    (c.in_ok-push_all_shown.ensures ∙ ap (λ entries. c.loop-chunk.events ++ news entries) (c.as_slice.ensures ∙ c.get.ensures))
