use Rattle.unl_upstream.specs.Kept.{kept_state}
use Rattle.unl_upstream.proofs.KeptServed.{gives_status}
use Rattle.unl_upstream.proofs.keeping_server.ByKeptRequestHandler.answer.Goals as goal

pub returns-clause-status : goal.returns-clause-status
returns-clause-status g c =
    gives_status (kept_state c.args.state.now.up.now (g.K.Keeper.state c.args.state.now.keeper.now))
    (kept_state c.answer_one.new.up (g.K.Keeper.state c.answer_one.new.keeper)) c.args.request.now c.args.draw.now c.in_ok-reply.reply
    c.in_ok-reply.ensures.gives
