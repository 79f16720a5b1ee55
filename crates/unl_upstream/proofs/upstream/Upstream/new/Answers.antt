use Rattle.std.proofs.lemmas.Result.{IfOk-weaker}
use Rattle.unl_upstream.proofs.VersionLemmas.{opens_without}
use Rattle.unl_upstream.proofs.upstream.Upstream.new.Goals as goal

pub returns-clause-versions : goal.returns-clause-versions
returns-clause-versions c =
    IfOk-weaker c.opening.result _ _ (λ up is. opens_without up c.args.boot c.args.secret.now c.args.environments.now c.args.book c.args.epoch is)
    c.opening.ensures
