use Rattle.unl_edge_state.proofs.FromLines.{sees_revisions}
use Rattle.unl_edge_state.proofs.laws.readers_see_revisions.Goals as goal

pub returns : goal.returns
returns c = sees_revisions
