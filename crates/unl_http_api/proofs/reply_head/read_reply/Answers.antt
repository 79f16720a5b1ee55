use Rattle.std.proofs.Common.{◌∙◌, arith, inr, refl}
use Rattle.unl_http_api.specs.declared.got.BadReply.TheVariants.{Memory}
use Rattle.unl_http_api.specs.Received.{IsReply}
use Rattle.unl_http_api.proofs.ReceivedLemmas.{Answers-from_gives, no_reply_head, reads_at, reply_at}
use Rattle.unl_http_api.proofs.reply_head.read_reply.Goals as goal

pub after-requires : goal.after-requires
after-requires c =
    (reply_at c.args.bytes.now _ _ c.in-Some.head c.window-prefix.ensures.value c.window-prefix.ensures.fits (c.see_reply.auto.spans ∙ c.requires)
    c.in-Some.ensures.some.0 c.in-Some.ensures.some.1).fits

pub returns-in-Some : goal.returns-in-Some
returns-in-Some c =
    let at = reply_at c.args.bytes.now _ _ c.in-Some.head c.window-prefix.ensures.value c.window-prefix.ensures.fits (c.see_reply.auto.spans ∙ c.requires)
    c.in-Some.ensures.some.0 c.in-Some.ensures.some.1 in
    Answers-from_gives Memory (IsReply c.args.bytes.now) c.reply_with.result _
    (rw (c.new-fields.ensures, c.after.ensures) at c.reply_with.ensures)
    (reads_at c.args.bytes.now c.in-Some.head _ at)

pub returns-in-None : goal.returns-in-None
returns-in-None c not_memory =
    inr (
      no_reply_head c.args.bytes.now _ c.window-prefix.ensures.value
          (λ head rest reads few. c.in-None.ensures.none head rest reads (omega (arith, few, c.requires))),
      refl,
    )
