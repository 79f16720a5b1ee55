use Rattle.crossbeam_queue.specs.Passes.{view, IsSamePass}
use Rattle.unl_server.specs.Links.{link_view}
use Rattle.unl_workers.specs.Taking.{TakesAndServes, with_draws}
use Rattle.unl_workers.specs.Serving.{ServesMany, serving}
use Rattle.unl_workers.proofs.worker.run_worker.Given as goal

-- `served` links were taken and served so far
abbrev pub invariant-loop-served : goal.invariant-loop-served
invariant-loop-served g l = record {
  served : ServesMany g.S.Server.serves l.served (serving l.initial.server (g.R.Draws.coming l.initial.draws))
      (serving l.server (g.R.Draws.coming l.draws));
  keeps : g.S.Server.keeps l.initial.server l.server;
  same : IsSamePass l.initial.pass l.pass;
  took : TakesAndServes (with_draws g.S.Server.serves)
      (λ link. link_view (g.L.Source.left link) (g.L.Sink.sent link) (g.L.Source.faults link)) l.served
      (view l.initial.pass).ends_seen (view l.initial.pass) (serving l.initial.server (g.R.Draws.coming l.initial.draws))
      (view l.pass) (serving l.server (g.R.Draws.coming l.draws));
}
