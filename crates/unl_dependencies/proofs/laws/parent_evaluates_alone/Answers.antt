use Rattle.unl_dependencies.proofs.Lawful.{parent_evaluates_alone}
use Rattle.unl_dependencies.proofs.laws.parent_evaluates_alone.Goals as goal

pub returns : goal.returns
returns c = parent_evaluates_alone
