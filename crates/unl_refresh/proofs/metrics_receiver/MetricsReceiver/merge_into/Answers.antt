use Rattle.std.proofs.Common.{◌∙◌, ap, refl}
use Rattle.unl_refresh.specs.MetricsQueues.{Receiving}
use Rattle.unl_refresh.proofs.Merging.{merges_nothing, merges_on}
use Rattle.unl_refresh.proofs.metrics_receiver.MetricsReceiver.merge_into.Goals as goal

pub loop-init : goal.loop-init
loop-init g c = record { same = refl; merges = merges_nothing _ _ }

pub loop-preserved : goal.loop-preserved
loop-preserved g c = record {
  same = c.merge_and_take.ensures.same
      ∙ ap (λ (r : Receiving). record r { intake = c.merge_and_take.new.self.intake }) c.loop.invariant.same;
  merges = merges_on _ _ _ _ _ _ c.loop.invariant.merges c.merge_and_take.ensures.merges;
}

pub returns-then-not-merge_and_take-clause-merges : goal.returns-then-not-merge_and_take-clause-merges
returns-then-not-merge_and_take-clause-merges g c = merges_on _ _ _ _ _ _ c.loop.invariant.merges c.merge_and_take.ensures.merges

pub returns-clause-merges : goal.returns-clause-merges
returns-clause-merges g c = merges_on _ _ _ _ _ _ c.loop.invariant.merges c.merge_held.ensures.merges
