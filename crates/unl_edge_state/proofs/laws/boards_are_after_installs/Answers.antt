use Rattle.unl_edge_state.proofs.Boards.{boards_are}
use Rattle.unl_edge_state.proofs.laws.boards_are_after_installs.Goals as goal

pub returns : goal.returns
returns c = boards_are
