use Rattle.unl_metrics.proofs.Gone.{these_go, others_stay}
use Rattle.unl_metrics.proofs.laws.acknowledged_keys_are_dropped.Goals as goal

pub returns-clause-these : goal.returns-clause-these
returns-clause-these c = these_go

pub returns-clause-others : goal.returns-clause-others
returns-clause-others c = others_stay
