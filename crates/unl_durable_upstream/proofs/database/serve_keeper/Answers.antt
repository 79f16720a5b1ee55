use Rattle.std.proofs.Common.{subst, ap}
use Rattle.unl_durable_upstream.specs.Serving.{ReopeningEnds, facing}
use Rattle.unl_keeper.specs.State.{KeeperState}
use Rattle.unl_upstream.specs.Kept.{KeptState, kept_state}
use Rattle.unl_durable_upstream.proofs.database.serve_keeper.Goals as goal

pub returns-clause-ends : goal.returns-clause-ends
returns-clause-ends g c =
    let last : KeptState = kept_state c.serve_reopened-served.new.up (g.K.Keeper.state c.serve_reopened-served.new.keeper.keeper) in (
      last,
      subst (λ (k : KeeperState). ReopeningEnds (kept_state c.args.up k) c.args.arguments.now.options.port c.serve_reopened-served.result last
          (facing (g.D.Door.state c.args.door.now) (g.R.Draws.coming c.args.draws.now))
          (facing (g.D.Door.state c.serve_reopened-served.new.door) (g.R.Draws.coming c.serve_reopened-served.new.draws)))
          (ap g.K.Keeper.state c.new-keeper.ensures) c.serve_reopened-served.ensures.ends,
    )
