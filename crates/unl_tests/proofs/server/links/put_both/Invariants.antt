use Rattle.std.proofs.Common.{◌≡◌, ◌<◌}
use Rattle.crossbeam_queue.specs.Passes.{view}
use Rattle.unl_workers.specs.Passes.{IsPassOfQueue}
use Rattle.unl_tests.proofs.server.links.put_both.Given as goal

-- the pass still belongs to the queue, and may put links
abbrev pub invariant-loop-link : goal.invariant-loop-link
invariant-loop-link g l = record {
  queue : IsPassOfQueue l.queue l.pass;
  parts : 0 < (view l.pass).parts;
  may_put : (view l.pass).may_put ≡ 1;
}
