use Rattle.unl_upstream.specs.Kept.{kept_state}
use Rattle.unl_upstream.proofs.Carrying.{carries_one}
use Rattle.unl_upstream.proofs.keeping.keep.Goals as goal

pub returns-clause-carries : goal.returns-clause-carries
returns-clause-carries g c =
    carries_one c.args.command.now (kept_state c.args.up.now (g.K.Keeper.state c.args.keeper.now)) c.keep_one.result
    (kept_state c.keep_one.new.up (g.K.Keeper.state c.keep_one.new.keeper)) (g.met.K.Keeper.at_least c.args.keeper.now) c.keep_one.ensures.keeps
