use Rattle.unl_http_api.specs.declared.got.BadReply.TheVariants.{Memory}
use Rattle.unl_http_api.specs.Received.{IsReply}
use Rattle.unl_http_api.proofs.ReceivedLemmas.{Gives-from_answers, IsReply_unique, tag_fits_if_ok}
use Rattle.unl_http_api.proofs.reply_reader.ReplyReader.finish.Goals as goal

pub returns-clause-only : goal.returns-clause-only
returns-clause-only c reading is =
    Gives-from_answers Memory (IsReply c.args.self) c.read_reply.result reading (IsReply_unique c.args.self)
    (rw (c.deref.ensures.value, c.self.view_is) at c.read_reply.ensures) is

pub returns-clause-tag : goal.returns-clause-tag
returns-clause-tag c = tag_fits_if_ok _ c.read_reply.result c.read_reply.ensures
