use Rattle.std.proofs.lemmas.Result.{IfOk-weaker}
use Rattle.unl_upstream.proofs.Applying.{replies_ready, replies_refused_command}
use Rattle.unl_upstream.proofs.upstream.Upstream.apply_and_reply.Goals as goal

pub returns-in_ok-reply-in-Ok-clause-answer : goal.returns-in_ok-reply-in-Ok-clause-answer
returns-in_ok-reply-in-Ok-clause-answer c =
    replies_ready c.args.command.now c.args.self.now c.commit.new.self c.in-Ok.ready c.number.result c.in_ok-reply-in-Ok.reply c.in-Ok.ensures.gives
    c.number.ensures c.in_ok-reply-in-Ok.ensures c.commit.ensures.committed

pub returns-in_default-clause-answer : goal.returns-in_default-clause-answer
returns-in_default-clause-answer c =
    IfOk-weaker c.refused.result _ _ (λ reply is. replies_refused_command c.args.command.now c.args.self.now c.in-Err.refusal c.from.result reply
    (c.in-Err.ensures.gives c.in_default.not-Memory) c.from.ensures is) c.refused.ensures
