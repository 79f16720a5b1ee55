use Rattle.std.proofs.Common.{rules}
use Rattle.unl_follow.proofs.Turning.{none_made}
use Rattle.unl_edge.proofs.follows.run_follow.Goals as goal

pub returns-in_err-ask-clause-runs : goal.returns-in_err-ask-clause-runs
returns-in_err-ask-clause-runs g c = none_made _ _ _ _ _ _ (search rules)
