use Rattle.std.proofs.lemmas.Result.{IfOk-weaker}
use Rattle.unl_upstream.proofs.Served.{answer_adds}
use Rattle.unl_upstream.proofs.upstream.Upstream.answer.Goals as goal

pub returns-clause-versions : goal.returns-clause-versions
returns-clause-versions c =
    IfOk-weaker c.answer_one.result _ _ (λ reply is. answer_adds c.args.self.now c.answer_one.new.self c.args.request.now c.args.draw.now reply is)
    c.answer_one.ensures.answer
