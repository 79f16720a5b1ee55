use Rattle.unl_edge_state.proofs.FromLines.{always_represented, boards_from_line, empty_board}
use Rattle.unl_edge_state.proofs.laws.sent_boards_represent_lines.Goals as goal

pub returns-clause-always : goal.returns-clause-always
returns-clause-always c = always_represented

pub returns-clause-boards : goal.returns-clause-boards
returns-clause-boards c = boards_from_line

pub returns-clause-empty : goal.returns-clause-empty
returns-clause-empty c = empty_board
