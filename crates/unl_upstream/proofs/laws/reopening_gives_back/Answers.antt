use Rattle.unl_upstream.proofs.Reopened.{gives_back}
use Rattle.unl_upstream.proofs.laws.reopening_gives_back.Goals as goal

pub returns : goal.returns
returns c = gives_back
