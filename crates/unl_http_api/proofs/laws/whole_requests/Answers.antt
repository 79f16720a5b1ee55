use Rattle.unl_http_api.proofs.WholeLemmas.{whole_session}
use Rattle.unl_http_api.proofs.laws.whole_requests.Goals as goal

pub returns : goal.returns
returns c = whole_session
