use Rattle.unl_constraints.proofs.Orders.{compared, number_total}
use Rattle.unl_constraints.proofs.laws.number_order_is_total.Goals as goal

pub returns-clause-compare : goal.returns-clause-compare
returns-clause-compare c = compared

pub returns-clause-total : goal.returns-clause-total
returns-clause-total c = number_total
