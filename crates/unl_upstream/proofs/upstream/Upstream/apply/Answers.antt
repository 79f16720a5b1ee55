use Rattle.std.proofs.lemmas.Result.{IfOk-weaker}
use Rattle.unl_upstream.proofs.VersionLemmas.{one_added}
use Rattle.unl_upstream.proofs.upstream.Upstream.apply.Goals as goal

pub returns-clause-versions : goal.returns-clause-versions
returns-clause-versions c =
    IfOk-weaker c.apply_one.result _ _ (λ number is. one_added c.args.command.now c.args.self.now c.apply_one.new.self number is)
    c.apply_one.ensures.applied
