use Rattle.unl_tokens.proofs.Different.{gathered_same}
use Rattle.unl_tokens.proofs.laws.different_are_kept.Goals as goal

pub returns : goal.returns
returns c = gathered_same
