use Rattle.std.proofs.Common.{refl}
use Rattle.unl_refresh.proofs.Connecting.{connects_still}
use Rattle.unl_edge.proofs.Polling.{later_made}
use Rattle.unl_edge.proofs.refresh_task.RefreshTaskPeriodicTask.turn.Goals as goal

pub returns-clause-turned : goal.returns-clause-turned
returns-clause-turned g c =
    later_made c.args.self.now.poller.now c.take_metrics.new.self c.turn.new.self _ _ _ _ c.turn.result _ _ c.take_metrics.ensures.same
    c.take_metrics.ensures.merges c.turn.ensures.same c.turn.ensures.polls

pub returns-clause-keeps : goal.returns-clause-keeps
returns-clause-keeps g c =
    (refl, refl, refl, (λ first faults connects. connects_still connects c.turn.ensures.connects), refl, c.take_metrics.ensures.same_receiver)
