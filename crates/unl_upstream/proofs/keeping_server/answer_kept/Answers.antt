use Rattle.std.proofs.lemmas.Result.{IfOk-weaker}
use Rattle.unl_upstream.specs.Kept.{kept_state}
use Rattle.unl_upstream.proofs.KeptServed.{carries_answer}
use Rattle.unl_upstream.proofs.keeping_server.answer_kept.Goals as goal

pub returns-clause-answers : goal.returns-clause-answers
returns-clause-answers g c =
    IfOk-weaker c.answer_one.result _ _ (λ reply gives. carries_answer (kept_state c.args.up.now (g.K.Keeper.state c.args.keeper.now))
    (kept_state c.answer_one.new.up (g.K.Keeper.state c.answer_one.new.keeper)) c.args.request.now c.args.draw.now reply
    (g.met.K.Keeper.at_least c.args.keeper.now) gives) c.answer_one.ensures.gives
