use Rattle.std.proofs.Common.{Ok, Err}
use Rattle.unl_durable_upstream.specs.Serving.{facing}
use Rattle.unl_upstream.specs.Kept.{KeptState, kept_state}
use Rattle.unl_durable_upstream.proofs.Keeping.{opens_and_serves}
use Rattle.unl_durable_upstream.proofs.serving.serve_reopened.Goals as goal

pub returns-in-Ok-serve_links-clause-ends : goal.returns-in-Ok-serve_links-clause-ends
returns-in-Ok-serve_links-clause-ends g c =
    let start : KeptState = kept_state c.args.up.now (g.K.Keeper.state c.args.keeper.now) in
    let opened : KeptState = kept_state c.reopen.new.up (g.K.Keeper.state c.reopen.new.keeper) in
    let last : KeptState = kept_state c.serve_links.new.up (g.K.Keeper.state c.serve_links.new.keeper) in
    opens_and_serves start opened last c.args.port c.in-Ok.count (Ok c.in-Ok-serve_links.served)
    (facing (g.D.Door.state c.args.door.now) (g.R.Draws.coming c.args.draws.now))
    (facing (g.D.Door.state c.serve_links.new.door) (g.R.Draws.coming c.serve_links.new.draws))
    (g.met.K.Keeper.at_least c.reopen.new.keeper) c.in-Ok.ensures.keeper c.in-Ok.ensures.reopens c.in-Ok-serve_links.ensures.ends

pub returns-in-Ok-clause-ends : goal.returns-in-Ok-clause-ends
returns-in-Ok-clause-ends g c =
    let start : KeptState = kept_state c.args.up.now (g.K.Keeper.state c.args.keeper.now) in
    let opened : KeptState = kept_state c.reopen.new.up (g.K.Keeper.state c.reopen.new.keeper) in
    let last : KeptState = kept_state c.serve_links.new.up (g.K.Keeper.state c.serve_links.new.keeper) in (
      c.in-Err.field-0,
      opens_and_serves start opened last c.args.port c.in-Ok.count (Err c.in-Err.field-0)
          (facing (g.D.Door.state c.args.door.now) (g.R.Draws.coming c.args.draws.now))
          (facing (g.D.Door.state c.serve_links.new.door) (g.R.Draws.coming c.serve_links.new.draws))
          (g.met.K.Keeper.at_least c.reopen.new.keeper) c.in-Ok.ensures.keeper c.in-Ok.ensures.reopens c.in-Err.ensures.ends,
    )
