use Rattle.std.proofs.Common.{IfOk, sym, ◌∙◌, rules}
use Rattle.std.proofs.lemmas.Result.{IfOk-weaker}
use Rattle.unl_upstream.specs.Kept.{kept_state}
use Rattle.unl_upstream.specs.KeptServing.{AnswersByKeeping}
use Rattle.unl_upstream.proofs.KeptServed.{replies_without_command, replies_with_command}
use Rattle.unl_upstream.proofs.keeping_server.answer_one.Goals as goal

pub returns-in-Execute-clause-gives : goal.returns-in-Execute-clause-gives
returns-in-Execute-clause-gives g c =
    let before = kept_state c.args.up.now (g.K.Keeper.state c.args.keeper.now) in
    let after = kept_state c.keep_and_reply.new.up (g.K.Keeper.state c.keep_and_reply.new.keeper) in
    let fact : IfOk c.keep_and_reply.result (λ reply. AnswersByKeeping before c.args.request.now c.args.draw.now reply after) =
    IfOk-weaker c.keep_and_reply.result _ _ (λ reply replies. replies_with_command before after c.args.request.now c.args.draw.now reply
    c.in-Execute.command (sym c.in_ok-command.ensures.given ∙ c.in-Execute.is) replies)
    c.keep_and_reply.ensures.replies in
    search rules

pub returns-in-Reply-clause-gives : goal.returns-in-Reply-clause-gives
returns-in-Reply-clause-gives g c =
    replies_without_command (kept_state c.args.up.now (g.K.Keeper.state c.args.keeper.now)) c.args.request.now c.args.draw.now c.in-Reply.reply
    (sym c.in_ok-command.ensures.given ∙ c.in-Reply.is)
