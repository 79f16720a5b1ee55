use Rattle.unl_edge_state.proofs.Sent.{edge_writer_send}
use Rattle.unl_edge_state.proofs.crossing.writers_are_send.Goals as goal

pub returns : goal.returns
returns g c lifetime = edge_writer_send lifetime _ c.type_bounds.sync-W c.publishing_crosses.ensures c.place_send.ensures
