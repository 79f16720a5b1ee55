use Rattle.std.proofs.Common.{◌≡◌, ◌<◌, ◌+◌, ◌++◌, length, map}
use Rattle.std.specs.Prelude.{filter_map}
use Rattle.std.specs.List.{All}
use Rattle.unl_workers.specs.Passes.{IsPassOfQueue}
use Rattle.unl_workers.specs.Pool.{slot_of, worker_of}
use Rattle.crossbeam_queue.specs.Passes.{view, IsSamePass}
use Rattle.unl_workers.specs.Tallies.{tally, new_tally}
use Rattle.unl_workers.proofs.pool_jobs.workers_of.Given as goal

-- the workers so far have a new pass each, and the other slots remain
abbrev pub invariant-loop-slot : goal.invariant-loop-slot
invariant-loop-slot g l = record {
  same : IsSamePass l.initial.pass l.pass;
  kept : view l.pass ≡ tally (view l.pass).parts (view l.initial.pass).put (view l.initial.pass).taken
      (view l.initial.pass).may_put (view l.initial.pass).ends_seen;
  parts : (view l.pass).parts + length l.initial.slot-iterator.rest.items ≡ (view l.initial.pass).parts + length l.slot-iterator.rest.items;
  less : length l.initial.slot-iterator.rest.items < (view l.initial.pass).parts;
  workers : map slot_of (filter_map worker_of l.jobs.items) ++ l.slot-iterator.rest.items ≡ l.initial.slot-iterator.rest.items;
  passes : All (λ worker. IsPassOfQueue l.queue worker.pass × (view worker.pass ≡ new_tally))
      (filter_map worker_of l.jobs.items);
}
