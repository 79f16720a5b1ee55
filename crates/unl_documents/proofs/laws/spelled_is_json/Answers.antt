use Rattle.unl_documents.proofs.ReadingLemmas.{spelled}
use Rattle.unl_documents.proofs.laws.spelled_is_json.Goals as goal

pub returns : goal.returns
returns c bytes value = spelled bytes value
