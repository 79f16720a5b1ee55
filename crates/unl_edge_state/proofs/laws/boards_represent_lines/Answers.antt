use Rattle.unl_edge_state.proofs.Represented.{boards_represent}
use Rattle.unl_edge_state.proofs.laws.boards_represent_lines.Goals as goal

pub returns : goal.returns
returns c line sees slot known opening k is none low represented = boards_represent line sees slot known opening k is none low represented
