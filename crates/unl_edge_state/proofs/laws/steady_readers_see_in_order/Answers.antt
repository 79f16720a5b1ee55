use Rattle.unl_edge_state.proofs.Looks.{sees_in_order}
use Rattle.unl_edge_state.proofs.laws.steady_readers_see_in_order.Goals as goal

pub returns : goal.returns
returns c reader steady = sees_in_order reader ∣ steady ∣₁
