use Rattle.unl_tokens.proofs.Latest.{known_once}
use Rattle.unl_tokens.proofs.laws.known_once.Goals as goal

pub returns : goal.returns
returns c = known_once
