use Rattle.unl_upstream.proofs.Given.{answer_results}
use Rattle.unl_upstream.proofs.VersionLemmas.{secret_stays}
use Rattle.unl_upstream.proofs.laws.requests_give_commands.Goals as goal

pub returns-clause-one : goal.returns-clause-one
returns-clause-one c up q draw = answer_results up q draw

pub returns-clause-secret : goal.returns-clause-secret
returns-clause-secret c command up = secret_stays command up
