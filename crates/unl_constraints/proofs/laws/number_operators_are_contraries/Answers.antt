use Rattle.unl_constraints.proofs.Operators.{gte_is_not_lt, lte_is_not_gt}
use Rattle.unl_constraints.proofs.laws.number_operators_are_contraries.Goals as goal

pub returns-clause-gte : goal.returns-clause-gte
returns-clause-gte c = gte_is_not_lt

pub returns-clause-lte : goal.returns-clause-lte
returns-clause-lte c = lte_is_not_gt
