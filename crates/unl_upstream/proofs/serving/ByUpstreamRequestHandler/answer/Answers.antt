use Rattle.unl_upstream.proofs.Statuses.{answered_status}
use Rattle.unl_upstream.proofs.serving.ByUpstreamRequestHandler.answer.Goals as goal

pub returns-clause-status : goal.returns-clause-status
returns-clause-status c =
    answered_status c.in_ok-reply.reply c.args.state.now c.answer.new.self c.args.request.now c.args.draw.now c.in_ok-reply.ensures.answer
