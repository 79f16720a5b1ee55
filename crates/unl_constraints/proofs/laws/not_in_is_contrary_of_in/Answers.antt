use Rattle.unl_constraints.proofs.Operators.{not_in_is_not}
use Rattle.unl_constraints.proofs.laws.not_in_is_contrary_of_in.Goals as goal

pub returns : goal.returns
returns c = not_in_is_not
