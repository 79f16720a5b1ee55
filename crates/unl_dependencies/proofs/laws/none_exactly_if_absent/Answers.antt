use Rattle.unl_dependencies.proofs.Lawful.{none_exactly_if_absent}
use Rattle.unl_dependencies.proofs.laws.none_exactly_if_absent.Goals as goal

pub returns : goal.returns
returns c = none_exactly_if_absent
