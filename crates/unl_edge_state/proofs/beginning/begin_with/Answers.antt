use Rattle.std.proofs.Common.{ap, ◌∙◌, map}
use Rattle.unl_core.specs.DeskStates.{place_at}
use Rattle.unl_edge_state.proofs.Writings.{writing_begun}
use Rattle.unl_publication.specs.Rule.{knows_opening}
use Rattle.unl_publication.specs.Seen.{written}
use Rattle.unl_edge_state.proofs.beginning.begin_with.Goals as goal

pub over-requires : goal.over-requires
over-requires g c = let opening = c.in_ok-writer.ensures.opening in
    writing_begun c.args.orderly c.args.board (written c.readers_at.new.writer) opening.0 c.in_ok-places.places.items c.requires.slots
    (c.readers_at.ensures.same ∙ (opening.1 ∙ ap (knows_opening opening.0) c.new.ensures))
    (c.in_ok-places.ensures.places ∙ ap (map place_at) c.as_slice.ensures) c.in_ok-places.ensures.valid
