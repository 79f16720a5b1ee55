use Rattle.unl_http_api.proofs.ReceivedLemmas.{IsReply-append}
use Rattle.unl_http_api.proofs.laws.full_reply_stays.Goals as goal

pub returns : goal.returns
returns c = IsReply-append
