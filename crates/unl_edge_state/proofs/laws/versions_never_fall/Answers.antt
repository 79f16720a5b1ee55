use Rattle.unl_edge_state.proofs.GoingOn.{fronts_go_on}
use Rattle.unl_edge_state.proofs.laws.versions_never_fall.Goals as goal

pub returns : goal.returns
returns c = fronts_go_on
