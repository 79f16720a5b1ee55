use Rattle.unl_http_api.proofs.ReceivedLemmas.{IsReply_unique}
use Rattle.unl_http_api.proofs.laws.one_reply.Goals as goal

pub returns : goal.returns
returns c = IsReply_unique
