use Rattle.std.proofs.Common.{ap}
use Rattle.unl_edge_state.specs.Writing.{Writing}
use Rattle.unl_edge_state.proofs.Looks.{new_all}
use Rattle.unl_edge_state.proofs.beginning.begin_orderly.Goals as goal

pub returns-in-Ok-clause-new : goal.returns-in-Ok-clause-new
returns-in-Ok-clause-new g c =
    new_all c.in-Ok.writer.known c.in-Ok.ensures.writer.0 c.args.board c.in-Ok.readers.items (ap (λ (w : Writing). w.known) c.in-Ok.ensures.writer.1)
    c.in-Ok.ensures.readers
