use Rattle.std.proofs.Common.{◌≡◌, ap, sym, ◌∙◌, length, subst, rules, arith}
use Rattle.std.specs.Prelude.{filter_map}
use Rattle.std.proofs.lemmas.List.Elements.{All-push, All-same, filter_map-append}
use Rattle.unl_workers.specs.Passes.{IsPassOfQueue}
use Rattle.unl_workers.specs.Pool.{worker_of}
use Rattle.crossbeam_queue.specs.Passes.{Pass, view}
use Rattle.unl_workers.specs.declared.tally.QueueEntry.{QueueEntry}
use Rattle.unl_workers.specs.declared.tally.QueueTally.{QueueTally}
use Rattle.unl_workers.specs.Tallies.{new_tally}
use Rattle.unl_workers.proofs.WorkerSlots.{same_slots}
use Rattle.unl_workers.proofs.Collecting.{items_all, same_but_parts, made_more}
use Rattle.unl_workers.specs.declared.worker.Worker.{Worker}
use Rattle.unl_workers.proofs.pool_jobs.workers_of.Goals as goal

pub loop-slot-preserved : goal.loop-slot-preserved
loop-slot-preserved g c =
    let so_far = c.loop-slot.invariant in
    let shorter = ap length c.in-Some.ensures.steps.0 in
    let less = ap (λ (v : QueueTally g.row.L.Denot). v.parts) c.split_pass.ensures.left in
    let Fits : Pass (QueueEntry g.row.L.Denot) (QueueTally g.row.L.Denot) → Type 0 =
    λ pass. IsPassOfQueue c.args.queue.now pass × (view pass ≡ new_tally) in
    let Ready : Worker g.row.S.Denot g.row.R.Denot g.row.L.Denot g.row.W.Denot → Type 0 = λ worker. Fits worker.pass in
    let pushed = ap (filter_map worker_of) c.in_ok-push.ensures.items ∙ filter_map-append worker_of c.loop-slot.jobs.items _ in
    record {
      same = search rules;
      kept = same_but_parts (view c.args.pass.now) (view c.loop-slot.pass) (view c.split_pass.new.pass) so_far.kept
          c.split_pass.ensures.left;
      parts = omega (arith, so_far.parts, so_far.less, shorter, less);
      less = so_far.less;
      workers = made_more _ _ _ _ _ _ _ _ so_far.workers c.in-Some.ensures.steps.0 pushed c.new_worker-worker.ensures.slot;
      passes = All-same Ready _ _ pushed (All-push Ready _ _ so_far.passes
          (subst Fits (sym c.new_worker-worker.ensures.pass) (c.split_pass.ensures.queue.1, c.split_pass.ensures.new)));
    }

pub returns-clause-workers : goal.returns-clause-workers
returns-clause-workers g c =
    let none : length c.loop-slot.slot-iterator.rest.items ≡ 0 = search rules in
    same_slots _ _ c.reserve_exact.ensures.items
    ∙ items_all _ _ _ c.loop-slot.invariant.workers none ∙ c.into_iter-slot-iterator.ensures.into_iter_gives.0

pub returns-clause-passes : goal.returns-clause-passes
returns-clause-passes g c =
    let Ready : Worker g.row.S.Denot g.row.R.Denot g.row.L.Denot g.row.W.Denot → Type 0 =
    λ worker. IsPassOfQueue c.args.queue.now worker.pass × (view worker.pass ≡ new_tally) in
    All-same Ready _ _ (ap (filter_map worker_of) c.reserve_exact.ensures.items) c.loop-slot.invariant.passes
