use Rattle.std.proofs.Common.{inr, refl}
use Rattle.unl_http_api.proofs.ReceivedLemmas.{no_reply_head, one_reply_of, reads_at, reply_at}
use Rattle.unl_http_api.proofs.reply_head.has_one_reply.Goals as goal

pub returns-in-Some : goal.returns-in-Some
returns-in-Some c =
    one_reply_of c.args.bytes.now _
    (reads_at c.args.bytes.now c.in-Some.field-0 _
    (reply_at c.args.bytes.now _ _ c.in-Some.field-0 c.window.ensures.value c.window.ensures.fits c.see_reply.auto.spans
    c.in-Some.ensures.some.0 c.in-Some.ensures.some.1))

pub returns-in-None : goal.returns-in-None
returns-in-None c =
    one_reply_of c.args.bytes.now _ (inr (no_reply_head c.args.bytes.now _ c.window.ensures.value c.in-None.ensures.none, refl))
