use Rattle.std.proofs.Common.{◌≡◌}
use Rattle.crossbeam_queue.specs.Passes.{view, IsSamePass}
use Rattle.unl_workers.specs.Passes.{IsPassOfQueue}
use Rattle.unl_workers.proofs.queue.LinkQueue.pop.Given as goal

-- nothing was taken yet
abbrev pub invariant-loop : goal.invariant-loop
invariant-loop g l = record {
  queue : IsPassOfQueue l.self l.pass;
  same : IsSamePass l.initial.pass l.pass;
  view : view l.pass ≡ view l.initial.pass;
}
