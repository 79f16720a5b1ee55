use Rattle.std.proofs.Common.{◌≡◌, List, refl, ap, sym, ◌∙◌, length, map, subst, rules, arith}
use Rattle.std.specs.Prelude.{filter_map, flat_map}
use Rattle.std.specs.List.{AllZip}
use Rattle.std.proofs.lemmas.Slice.Zip.{AllZip-long}
use Rattle.crossbeam_queue.specs.Passes.{Pass}
use Rattle.unl_server.specs.Links.{LinkView, link_view}
use Rattle.unl_workers.specs.Passes.{IsPassOfQueue}
use Rattle.unl_workers.specs.declared.tally.QueueEntry.{QueueEntry}
use Rattle.unl_workers.specs.declared.tally.QueueTally.{QueueTally}
use Rattle.unl_workers.specs.Tallies.{SameLinks, first_tally, weigh}
use Rattle.unl_workers.specs.declared.worker.WorkerSlot.{WorkerSlot}
use Rattle.unl_workers.specs.declared.worker.Worker.{Worker}
use Rattle.unl_workers.specs.Pool.{RunsWorker, slot_of, taken_by, worker_of}
use Rattle.unl_workers.specs.Shares.{ServedAtEach}
use Rattle.unl_workers.specs.Serving.{ServesSlot}
use Rattle.unl_workers.proofs.Shares.{all_slots, all_counted, all_done, all_served, pieces_of, whole_put, whole_parts, whole_taken}
use Rattle.unl_workers.proofs.WorkerSlots.{workers_worked}
use Rattle.unl_workers.proofs.pool.run_prepared.Goals as goal

pub collect_slots-slots-requires-clause-passes : goal.collect_slots-slots-requires-clause-passes
collect_slots-slots-requires-clause-passes g c =
    let state_of : g.row.D-L.Denot → LinkView =
    λ link. link_view (g.D.L.Source.left link) (g.D.L.Sink.sent link) (g.D.L.Source.faults link) in
    let Fits : Pass (QueueEntry g.row.D-L.Denot) (QueueTally g.row.D-L.Denot) → Type 0 = λ pass. IsPassOfQueue c.args.queue.now pass in
    let was : List (Worker g.row.S.Denot g.row.R.Denot g.row.D-L.Denot g.row.W.Denot) = filter_map worker_of c.args.workers.items in
    let done : List (Worker g.row.S.Denot g.row.R.Denot g.row.D-L.Denot g.row.W.Denot) = filter_map worker_of c.in-Ok.workers.items in
    let each : AllZip (RunsWorker g.S.Server.serves g.S.Server.keeps g.R.Draws.coming state_of) was done =
    workers_worked (RunsWorker g.S.Server.serves g.S.Server.keeps g.R.Draws.coming state_of) g.B.Job.worked c.args.workers.items
    c.in-Ok.workers.items (rw (c.in-Ok.is) at c.run_jobs-acceptor.ensures.each) in
    all_done g.S.Server.serves g.S.Server.keeps g.R.Draws.coming state_of Fits (λ p q same fits. (same.0 ∙ fits.0, same.2 ∙ fits.1))
    was done each c.requires.passes

pub collect_slots-slots-requires-clause-room : goal.collect_slots-slots-requires-clause-room
collect_slots-slots-requires-clause-room g c =
    let state_of : g.row.D-L.Denot → LinkView =
    λ link. link_view (g.D.L.Source.left link) (g.D.L.Sink.sent link) (g.D.L.Source.faults link) in
    let was : List (Worker g.row.S.Denot g.row.R.Denot g.row.D-L.Denot g.row.W.Denot) = filter_map worker_of c.args.workers.items in
    let done : List (Worker g.row.S.Denot g.row.R.Denot g.row.D-L.Denot g.row.W.Denot) = filter_map worker_of c.in-Ok.workers.items in
    let each : AllZip (RunsWorker g.S.Server.serves g.S.Server.keeps g.R.Draws.coming state_of) was done =
    workers_worked (RunsWorker g.S.Server.serves g.S.Server.keeps g.R.Draws.coming state_of) g.B.Job.worked c.args.workers.items
    c.in-Ok.workers.items (rw (c.in-Ok.is) at c.run_jobs-acceptor.ensures.each) in
    let long : length done ≡ length was = AllZip-long _ _ _ each in
    omega (arith, long, c.requires.room)

pub all_taken-requires-clause-whole : goal.all_taken-requires-clause-whole
all_taken-requires-clause-whole g c =
    let state_of : g.row.D-L.Denot → LinkView =
    λ link. link_view (g.D.L.Source.left link) (g.D.L.Sink.sent link) (g.D.L.Source.faults link) in
    let was : List (Worker g.row.S.Denot g.row.R.Denot g.row.D-L.Denot g.row.W.Denot) = filter_map worker_of c.args.workers.items in
    let done : List (Worker g.row.S.Denot g.row.R.Denot g.row.D-L.Denot g.row.W.Denot) = filter_map worker_of c.in-Ok.workers.items in
    let each : AllZip (RunsWorker g.S.Server.serves g.S.Server.keeps g.R.Draws.coming state_of) was done =
    workers_worked (RunsWorker g.S.Server.serves g.S.Server.keeps g.R.Draws.coming state_of) g.B.Job.worked c.args.workers.items
    c.in-Ok.workers.items (rw (c.in-Ok.is) at c.run_jobs-acceptor.ensures.each) in
    let long : length done ≡ length was = AllZip-long _ _ _ each in
    let worked = rw (c.in-Ok.is) at c.run_jobs-acceptor.ensures.here in
    let accepted = worked.1 c.requires.begins in
    let puts = accepted.3 in
    whole_parts first_tally _ _ _ _ _ _ _ refl c.requires.knows puts.1.put c.collect_slots-slots.ensures.whole long c.args.acceptor.parts

pub returns-in-Ok-clause-slots : goal.returns-in-Ok-clause-slots
returns-in-Ok-clause-slots g c =
    let state_of : g.row.D-L.Denot → LinkView =
    λ link. link_view (g.D.L.Source.left link) (g.D.L.Sink.sent link) (g.D.L.Source.faults link) in
    let was : List (Worker g.row.S.Denot g.row.R.Denot g.row.D-L.Denot g.row.W.Denot) = filter_map worker_of c.args.workers.items in
    let done : List (Worker g.row.S.Denot g.row.R.Denot g.row.D-L.Denot g.row.W.Denot) = filter_map worker_of c.in-Ok.workers.items in
    let each : AllZip (RunsWorker g.S.Server.serves g.S.Server.keeps g.R.Draws.coming state_of) was done =
    workers_worked (RunsWorker g.S.Server.serves g.S.Server.keeps g.R.Draws.coming state_of) g.B.Job.worked c.args.workers.items
    c.in-Ok.workers.items (rw (c.in-Ok.is) at c.run_jobs-acceptor.ensures.each) in
    let attended = all_slots g.S.Server.serves g.S.Server.keeps g.R.Draws.coming state_of was done each in
    subst (λ (slots : List (WorkerSlot g.row.S.Denot g.row.R.Denot)).
    AllZip (ServesSlot g.S.Server.serves g.S.Server.keeps g.R.Draws.coming) (map slot_of was) slots)
    (sym c.collect_slots-slots.ensures.slots) attended

pub returns-in-Ok-clause-each_link_served_once : goal.returns-in-Ok-clause-each_link_served_once
returns-in-Ok-clause-each_link_served_once g c some =
    let state_of : g.row.D-L.Denot → LinkView =
    λ link. link_view (g.D.L.Source.left link) (g.D.L.Sink.sent link) (g.D.L.Source.faults link) in
    let Fits : Pass (QueueEntry g.row.D-L.Denot) (QueueTally g.row.D-L.Denot) → Type 0 = λ pass. IsPassOfQueue c.args.queue.now pass in
    let was : List (Worker g.row.S.Denot g.row.R.Denot g.row.D-L.Denot g.row.W.Denot) = filter_map worker_of c.args.workers.items in
    let done : List (Worker g.row.S.Denot g.row.R.Denot g.row.D-L.Denot g.row.W.Denot) = filter_map worker_of c.in-Ok.workers.items in
    let each : AllZip (RunsWorker g.S.Server.serves g.S.Server.keeps g.R.Draws.coming state_of) was done =
    workers_worked (RunsWorker g.S.Server.serves g.S.Server.keeps g.R.Draws.coming state_of) g.B.Job.worked c.args.workers.items
    c.in-Ok.workers.items (rw (c.in-Ok.is) at c.run_jobs-acceptor.ensures.each) in
    let worked = rw (c.in-Ok.is) at c.run_jobs-acceptor.ensures.here in
    let accepted = worked.1 c.requires.begins in
    let puts = accepted.3 in
    let long : length done ≡ length was = AllZip-long _ _ _ each in
    let seen = ap (λ (v : QueueTally g.row.D-L.Denot). v.ends_seen) c.collect_slots-slots.ensures.whole in
    let put = whole_put first_tally _ _ _ _ _ _ _ refl c.requires.knows puts.1.put c.collect_slots-slots.ensures.whole in
    let taken = whole_taken first_tally _ _ _ _ _ _ _ refl c.requires.knows puts.1.put c.collect_slots-slots.ensures.whole
    ∙ pieces_of taken_by done in
    let shares : List (List g.row.D-L.Denot) = map taken_by done in
    let same : SameLinks puts.0 (flat_map (λ (share : List g.row.D-L.Denot). share) shares) =
    λ h. ap (weigh h) (sym put) ∙ c.all_taken.ensures (omega (arith, long, seen, some)) h ∙ ap (weigh h) taken in
    let before : List (WorkerSlot g.row.S.Denot g.row.R.Denot) = map slot_of was in
    let at_slots = all_served g.S.Server.serves g.S.Server.keeps g.R.Draws.coming state_of Fits
    (λ p q same fits. (same.0 ∙ fits.0, same.2 ∙ fits.1)) was done each c.requires.passes in
    let served : ServedAtEach g.S.Server.serves g.R.Draws.coming state_of shares before c.collect_slots-slots.result.items =
    subst (λ (slots : List (WorkerSlot g.row.S.Denot g.row.R.Denot)).
    ServedAtEach g.S.Server.serves g.R.Draws.coming state_of shares before slots)
    (sym c.collect_slots-slots.ensures.slots) at_slots in
    record {
      given = puts.0;
      shares = shares;
      handed = puts.1.handed;
      counted = puts.2;
      served = served;
      same = same;
      total = all_counted g.S.Server.serves g.R.Draws.coming state_of puts.0 shares before c.collect_slots-slots.result.items served same
          ∙ puts.2;
    }

pub returns-in-Ok-clause-accepts : goal.returns-in-Ok-clause-accepts
returns-in-Ok-clause-accepts g c =
    let worked = rw (c.in-Ok.is) at c.run_jobs-acceptor.ensures.here in
    let accepted = worked.1 c.requires.begins in
    accepted.0

pub returns-in-Ok-clause-causes : goal.returns-in-Ok-clause-causes
returns-in-Ok-clause-causes g c =
    let worked = rw (c.in-Ok.is) at c.run_jobs-acceptor.ensures.here in
    let accepted = worked.1 c.requires.begins in
    record {
      door_later = accepted.1.later;
      spawner_later = c.run_jobs-acceptor.ensures.cause.later;
      door = accepted.1.failed;
      spawner = search rules;
    }
