use Rattle.unl_constraints.proofs.Operators.{inverted_is_not}
use Rattle.unl_constraints.proofs.laws.inverted_negates.Goals as goal

pub returns : goal.returns
returns c = inverted_is_not
