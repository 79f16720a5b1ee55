use Rattle.std.proofs.Common.{ap, ◌∙◌}
use Rattle.unl_edge_state.specs.Editions.{board_known}
use Rattle.unl_edge_state.specs.Writing.{Writing}
use Rattle.unl_edge_state.proofs.Boards.{shown_known}
use Rattle.unl_publication.specs.Seen.{published}
use Rattle.unl_edge_state.proofs.writer.EdgeWriter.board.Goals as goal

pub returns-clause-board : goal.returns-clause-board
returns-clause-board g c =
    c.board.ensures.board ∙ shown_known (published c.self.inside.publisher) c.value.result.now c.self.invariant.begun c.value.ensures.list ∙ ap (λ (w : Writing). board_known w.known) c.self.view_is
