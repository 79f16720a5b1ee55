use Rattle.unl_upstream.specs.Kept.{kept_state}
use Rattle.unl_upstream.proofs.KeptServed.{replies_failed, replies_kept, replies_refused, same_still}
use Rattle.unl_upstream.proofs.keeping_server.keep_and_reply.Goals as goal

pub returns-in-Ok-put-clause-replies : goal.returns-in-Ok-put-clause-replies
returns-in-Ok-put-clause-replies g c =
    replies_kept c.args.command.now (kept_state c.args.up.now (g.K.Keeper.state c.args.keeper.now))
    (kept_state c.put.new.up (g.K.Keeper.state c.put.new.keeper)) c.in-Ok.pending.ready c.in-Ok.pending.text c.in-Ok-put.field-0 c.number.result
    c.in_ok-kept-in-Ok.kept c.in-Ok.ensures.pending c.number.ensures c.in_ok-kept-in-Ok.ensures c.in-Ok-put.ensures

pub returns-in-Err-Fault-clause-replies : goal.returns-in-Err-Fault-clause-replies
returns-in-Err-Fault-clause-replies g c =
    let puts = rw (c.in-Err-Fault.field-0-is) at c.in-Err-Fault.ensures in
    replies_failed c.args.command.now (kept_state c.args.up.now (g.K.Keeper.state c.args.keeper.now))
    (kept_state c.put.new.up (g.K.Keeper.state c.put.new.keeper)) c.in-Ok.pending.ready c.in-Ok.pending.text c.in_ok-failed-in-Ok.failed
    c.in-Ok.ensures.pending c.in_ok-failed-in-Ok.ensures puts

pub returns : goal.returns
returns g c =
    let state = kept_state c.args.up.now (g.K.Keeper.state c.args.keeper.now) in record {
      stays = c.requires.opened;
      replies = replies_refused c.args.command.now state c.in-Err.refusal c.refused-in_default.result c.refused-in_default.ensures
          c.in_default.not-Memory c.in-Err.ensures.refused;
      same = same_still c.refused-in_default.result state;
    }
