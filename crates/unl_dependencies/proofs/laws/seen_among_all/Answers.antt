use Rattle.unl_dependencies.proofs.Sight.{seen_among_all}
use Rattle.unl_dependencies.proofs.laws.seen_among_all.Goals as goal

pub returns : goal.returns
returns c = seen_among_all
