use Rattle.unl_edge_state.proofs.Ordered.{readers_in_order}
use Rattle.unl_edge_state.proofs.laws.readers_see_order.Goals as goal

pub returns : goal.returns
returns c = readers_in_order
