-- Lemmas about the workers among finished jobs.
use Rattle.std.proofs.Common.{◌≡◌, List, [], ◌∷◌, ◌++◌, Option, Some, None, map, refl, sym, ap, ◌∙◌}
use Rattle.std.specs.Prelude.{filter_map, option_to_list}
use Rattle.std.specs.List.{AllZip, cons_option}
use Rattle.unl_workers.specs.declared.pool_jobs.PoolJob.{PoolJob}
use Rattle.unl_workers.specs.declared.pool_jobs.PoolJob.TheVariants.{Worker, Other}
use Rattle.unl_workers.specs.declared.worker.Worker.{Worker as WorkerOf}
use Rattle.unl_workers.specs.Pool.{PoolJobWorked, slot_of, worker_of}

-- each worker did its work
pub workers_worked : {S R L W B : Type 0} (RunsWorker : WorkerOf S R L W → WorkerOf S R L W → Type 0) (Worked : B → B → Type 0)
    (jobs done : List (PoolJob S R L W B)) → AllZip (PoolJobWorked RunsWorker Worked) jobs done
    → AllZip RunsWorker (filter_map worker_of jobs) (filter_map worker_of done)
workers_worked RunsWorker Worked [] [] zip = tt
workers_worked RunsWorker Worked [] (b ∷ done) zip = absurd zip
workers_worked RunsWorker Worked (a ∷ jobs) [] zip = absurd zip
workers_worked RunsWorker Worked (Worker a ∷ jobs) (Worker b ∷ done) zip = (zip.0, workers_worked RunsWorker Worked jobs done zip.1)
workers_worked RunsWorker Worked (Worker a ∷ jobs) (Other b ∷ done) zip = absurd zip.0
workers_worked RunsWorker Worked (Other a ∷ jobs) (Worker b ∷ done) zip = absurd zip.0
workers_worked RunsWorker Worked (Other a ∷ jobs) (Other b ∷ done) zip = workers_worked RunsWorker Worked jobs done zip.1

joined : {Y : Type 0} (one : Option Y) (rest : List Y) → option_to_list one ++ rest ≡ cons_option one rest
joined None rest = refl
joined (Some y) rest = refl

-- the workers among the jobs: the first job, if it is a worker, and the workers among the other jobs
pub chunked : {X Y : Type 0} (h : X → Option Y) (job : X) (before rest : List X) → before ≡ job ∷ rest
    → filter_map h before ≡ option_to_list (h job) ++ filter_map h rest
chunked h job before rest steps = ap (filter_map h) steps ∙ sym (joined (h job) (filter_map h rest))

-- equal lists of jobs have equal lists of worker slots
pub same_slots : {S R L W B : Type 0} (jobs done : List (PoolJob S R L W B)) → jobs ≡ done
    → map slot_of (filter_map worker_of jobs) ≡ map slot_of (filter_map worker_of done)
same_slots {S} {R} {L} {W} {B} jobs done same = ap (λ (all : List (PoolJob S R L W B)). map slot_of (filter_map worker_of all)) same
