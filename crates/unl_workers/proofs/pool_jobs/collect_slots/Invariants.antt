use Rattle.std.proofs.Common.{◌≡◌, ◌≤◌, ◌+◌, ◌++◌, [], length, map}
use Rattle.std.specs.Prelude.{filter_map, flat_map, vec_capacity}
use Rattle.std.specs.List.{All}
use Rattle.crossbeam_queue.specs.Passes.{view, IsSamePass}
use Rattle.unl_workers.specs.Passes.{IsPassOfQueue}
use Rattle.unl_workers.specs.Tallies.{tally}
use Rattle.unl_workers.specs.Pool.{slot_of, taken_by, worker_of}
use Rattle.unl_workers.proofs.pool_jobs.collect_slots.Given as goal

-- the passes of the workers so far were joined, and those of the other workers remain
abbrev pub invariant-loop-job : goal.invariant-loop-job
invariant-loop-job g l = record {
  same : IsSamePass l.initial.pass l.pass;
  parts : (view l.pass).parts + length (filter_map worker_of l.job-iterator.rest.items)
      ≡ (view l.initial.pass).parts + length (filter_map worker_of l.initial.job-iterator.rest.items);
  ends_seen : (view l.pass).ends_seen + length (filter_map worker_of l.job-iterator.rest.items)
      ≡ (view l.initial.pass).ends_seen + length (filter_map worker_of l.initial.job-iterator.rest.items);
  put : (view l.pass).put ≡ (view l.initial.pass).put;
  may_put : (view l.pass).may_put ≡ (view l.initial.pass).may_put;
  taken : (view l.pass).taken ++ flat_map taken_by (filter_map worker_of l.job-iterator.rest.items)
      ≡ (view l.initial.pass).taken ++ flat_map taken_by (filter_map worker_of l.initial.job-iterator.rest.items);
  slots : l.slots.items ++ map slot_of (filter_map worker_of l.job-iterator.rest.items)
      ≡ map slot_of (filter_map worker_of l.initial.job-iterator.rest.items);
  passes : All (λ worker. IsPassOfQueue l.queue worker.pass × (view worker.pass ≡ tally 1 [] (taken_by worker) 0 1))
      (filter_map worker_of l.job-iterator.rest.items);
  more : (view l.initial.pass).parts ≤ (view l.pass).parts;
  room : length l.slots.items + length (filter_map worker_of l.job-iterator.rest.items) ≤ vec_capacity l.slots;
}
