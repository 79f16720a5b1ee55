use Rattle.std.proofs.Common.{Ok, Err}
use Rattle.unl_keeper.specs.declared.refusal.KeepRefusal.TheVariants as fault
use Rattle.unl_upstream.specs.Kept.{kept_state}
use Rattle.unl_upstream.proofs.Carrying.{keeps_by_put}
use Rattle.unl_upstream.proofs.keeping.keep_one.Goals as goal

pub returns-in-Ok-clause-keeps : goal.returns-in-Ok-clause-keeps
returns-in-Ok-clause-keeps g c =
    keeps_by_put c.args.command.now (kept_state c.args.up.now (g.K.Keeper.state c.args.keeper.now))
    (kept_state c.put.new.up (g.K.Keeper.state c.put.new.keeper)) c.in_ok-pending.pending.ready c.in_ok-pending.pending.text (Ok c.in-Ok.number)
    c.in_ok-pending.ensures.pending c.in-Ok.ensures

pub returns-in-Err-Fault-clause-keeps : goal.returns-in-Err-Fault-clause-keeps
returns-in-Err-Fault-clause-keeps g c =
    let puts = rw (c.in-Err-Fault.field-0-is) at c.in-Err-Fault.ensures in
    keeps_by_put c.args.command.now (kept_state c.args.up.now (g.K.Keeper.state c.args.keeper.now))
    (kept_state c.put.new.up (g.K.Keeper.state c.put.new.keeper)) c.in_ok-pending.pending.ready c.in_ok-pending.pending.text (Err fault.Fault)
    c.in_ok-pending.ensures.pending puts

pub returns-in-Err-Memory-clause-keeps : goal.returns-in-Err-Memory-clause-keeps
returns-in-Err-Memory-clause-keeps g c =
    let puts = rw (c.in-Err-Memory.field-0-is) at c.in-Err-Memory.ensures in
    keeps_by_put c.args.command.now (kept_state c.args.up.now (g.K.Keeper.state c.args.keeper.now))
    (kept_state c.put.new.up (g.K.Keeper.state c.put.new.keeper)) c.in_ok-pending.pending.ready c.in_ok-pending.pending.text (Err fault.Memory)
    c.in_ok-pending.ensures.pending puts
