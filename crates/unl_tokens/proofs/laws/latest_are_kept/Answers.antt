use Rattle.unl_tokens.proofs.Latest.{gathered_latest, latest_read}
use Rattle.unl_tokens.proofs.laws.latest_are_kept.Goals as goal

pub returns-clause-gathered : goal.returns-clause-gathered
returns-clause-gathered c = gathered_latest

pub returns-clause-read : goal.returns-clause-read
returns-clause-read c = latest_read
