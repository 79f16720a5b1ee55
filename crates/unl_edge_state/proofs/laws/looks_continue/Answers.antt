use Rattle.unl_edge_state.proofs.Continuing.{continues, itself}
use Rattle.unl_edge_state.proofs.laws.looks_continue.Goals as goal

pub returns-clause-itself : goal.returns-clause-itself
returns-clause-itself c = itself

pub returns-clause-look : goal.returns-clause-look
returns-clause-look c = continues
