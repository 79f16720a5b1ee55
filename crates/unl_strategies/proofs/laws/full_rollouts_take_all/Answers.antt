use Rattle.unl_strategies.proofs.Rollouts.{takes_all}
use Rattle.unl_strategies.proofs.laws.full_rollouts_take_all.Goals as goal

pub returns-clause-all : goal.returns-clause-all
returns-clause-all c = takes_all
