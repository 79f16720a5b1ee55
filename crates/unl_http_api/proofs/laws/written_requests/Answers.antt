use Rattle.unl_http_api.proofs.WrittenLemmas.{written_is_read}
use Rattle.unl_http_api.proofs.laws.written_requests.Goals as goal

pub returns : goal.returns
returns c = written_is_read
