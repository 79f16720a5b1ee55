use Rattle.unl_dependencies.proofs.Places.{first_is_least, none_is_active}
use Rattle.unl_dependencies.proofs.laws.first_is_least.Goals as goal

pub returns-clause-least : goal.returns-clause-least
returns-clause-least c = first_is_least

pub returns-clause-none : goal.returns-clause-none
returns-clause-none c = none_is_active
