use Rattle.unl_edge_state.proofs.Continuing.{answers_after}
use Rattle.unl_edge_state.proofs.laws.answers_are_after_installs.Goals as goal

pub returns : goal.returns
returns c = answers_after
