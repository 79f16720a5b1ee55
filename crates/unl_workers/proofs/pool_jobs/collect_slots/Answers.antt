use Rattle.std.proofs.Common.{◌≡◌, refl, ap, sym, ◌∙◌, [], length, map, List, rules, arith, ◌++◌}
use Rattle.std.specs.Prelude.{filter_map, option_to_list}
use Rattle.std.proofs.lemmas.List.{length-append, length-map}
use Rattle.std.proofs.lemmas.List.Elements.{All-same}
use Rattle.crossbeam_queue.specs.Passes.{view}
use Rattle.unl_workers.specs.Passes.{IsPassOfQueue}
use Rattle.unl_workers.specs.declared.tally.QueueTally.{QueueTally}
use Rattle.unl_workers.specs.Tallies.{tally}
use Rattle.unl_workers.proofs.Collecting.{all_back, all_prefix, items_chunk, mapped_all, none_found, pieces_chunk}
use Rattle.unl_workers.proofs.WorkerSlots.{chunked, same_slots}
use Rattle.unl_workers.specs.Pool.{slot_of, taken_by, worker_of}
use Rattle.unl_workers.specs.declared.worker.Worker.{Worker}
use Rattle.unl_workers.proofs.pool_jobs.collect_slots.Goals as goal

pub collect_slot-requires-clause-passes : goal.collect_slot-requires-clause-passes
collect_slot-requires-clause-passes g c =
    let Done : Worker g.row.S.Denot g.row.R.Denot g.row.L.Denot g.row.W.Denot → Type 0 =
    λ worker. IsPassOfQueue c.args.queue.now worker.pass × (view worker.pass ≡ tally 1 [] (taken_by worker) 0 1) in
    all_prefix Done (option_to_list (worker_of c.in-Some.job)) (filter_map worker_of c.next.new.self.rest.items)
    (All-same Done _ _ (sym (chunked worker_of c.in-Some.job _ _ c.in-Some.ensures.steps.0)) c.loop-job.invariant.passes)

pub collect_slot-requires-clause-room : goal.collect_slot-requires-clause-room
collect_slot-requires-clause-room g c =
    let shorter = ap length (chunked worker_of c.in-Some.job _ _ c.in-Some.ensures.steps.0)
    ∙ length-append (option_to_list (worker_of c.in-Some.job)) (filter_map worker_of c.next.new.self.rest.items) in
    omega (arith, shorter, c.loop-job.invariant.room)

pub loop-job-preserved : goal.loop-job-preserved
loop-job-preserved g c =
    let so_far = c.loop-job.invariant in
    let steps = chunked worker_of c.in-Some.job _ _ c.in-Some.ensures.steps.0 in
    let chunk : List (Worker g.row.S.Denot g.row.R.Denot g.row.L.Denot g.row.W.Denot) = option_to_list (worker_of c.in-Some.job) in
    let rest : List (Worker g.row.S.Denot g.row.R.Denot g.row.L.Denot g.row.W.Denot) = filter_map worker_of c.next.new.self.rest.items in
    let shorter = ap length steps ∙ length-append chunk rest in
    let Done : Worker g.row.S.Denot g.row.R.Denot g.row.L.Denot g.row.W.Denot → Type 0 =
    λ worker. IsPassOfQueue c.args.queue.now worker.pass × (view worker.pass ≡ tally 1 [] (taken_by worker) 0 1) in
    let whole = c.collect_slot.ensures.whole in
    let longer = ap length c.collect_slot.ensures.items ∙ length-append c.loop-job.slots.items _ in
    record {
      same = search rules;
      parts = omega (arith, so_far.parts, shorter, ap (λ (v : QueueTally g.row.L.Denot). v.parts) whole);
      ends_seen = omega (arith, so_far.ends_seen, shorter, ap (λ (v : QueueTally g.row.L.Denot). v.ends_seen) whole);
      put = ap (λ (v : QueueTally g.row.L.Denot). v.put) whole ∙ so_far.put;
      may_put = ap (λ (v : QueueTally g.row.L.Denot). v.may_put) whole ∙ so_far.may_put;
      taken = pieces_chunk _ _ _ chunk _ rest _ so_far.taken steps (ap (λ (v : QueueTally g.row.L.Denot). v.taken) whole);
      slots = items_chunk _ _ _ chunk _ rest _ so_far.slots steps c.collect_slot.ensures.items;
      passes = all_back Done chunk rest (All-same Done _ _ (sym steps) so_far.passes);
      more = omega (arith, so_far.more, ap (λ (v : QueueTally g.row.L.Denot). v.parts) whole);
      room = omega (arith, so_far.room, shorter, c.collect_slot.ensures.room, longer, length-map chunk slot_of);
    }

pub loop-job-init : goal.loop-job-init
loop-job-init g c =
    let all = ap (filter_map worker_of) c.into_iter-job-iterator.ensures.into_iter_gives.0 in
    let Done : Worker g.row.S.Denot g.row.R.Denot g.row.L.Denot g.row.W.Denot → Type 0 =
    λ worker. IsPassOfQueue c.args.queue.now worker.pass × (view worker.pass ≡ tally 1 [] (taken_by worker) 0 1) in
    record {
      same = (refl, refl, refl);
      parts = refl;
      ends_seen = refl;
      put = refl;
      may_put = refl;
      taken = refl;
      slots = ap (λ slots. slots ++ map slot_of (filter_map worker_of c.into_iter-job-iterator.result.rest.items))
          c.requires.empty;
      passes = All-same Done _ _ all c.requires.passes;
      more = omega arith;
      room = omega (arith, ap length all, ap length c.requires.empty, c.requires.room);
    }

pub returns-clause-slots : goal.returns-clause-slots
returns-clause-slots g c =
    let none : length c.loop-job.job-iterator.rest.items ≡ 0 = search rules in
    mapped_all slot_of _ (filter_map worker_of c.loop-job.job-iterator.rest.items) _
    c.loop-job.invariant.slots (none_found worker_of c.loop-job.job-iterator.rest.items none)
    ∙ same_slots _ _ c.into_iter-job-iterator.ensures.into_iter_gives.0
