use Rattle.unl_strategies.proofs.Rollouts.{grows}
use Rattle.unl_strategies.proofs.laws.rollouts_grow.Goals as goal

pub returns : goal.returns
returns c = grows
