-- The jobs of a pool, and the result of running it.
use Rattle.std.specs.Prelude.{◌≡◌, ◌≤◌, ℕ, List, Option, Some, None, Result, Ok, Err, IfOk, OnErr}
use Rattle.crossbeam_queue.specs.Passes.{view, IsSamePass}
use Rattle.unl_base.specs.Doors.{DoorState}
use Rattle.unl_base.specs.Faults.{Rose}
use Rattle.unl_server.specs.Handling.{Coming}
use Rattle.unl_server.specs.Links.{LinkView}
use Rattle.unl_workers.specs.declared.acceptor.AcceptOutcome.{AcceptOutcome}
use Rattle.unl_workers.specs.declared.pool.PoolFault.{PoolFault}
use Rattle.unl_workers.specs.declared.pool.PoolFault.TheVariants.{Spawner}
use Rattle.unl_workers.specs.declared.pool_jobs.PoolJob.{PoolJob}
use Rattle.unl_workers.specs.declared.pool_jobs.PoolJob.TheVariants.{Worker, Other}
use Rattle.unl_workers.specs.declared.worker.Worker.{Worker as WorkerOf}
use Rattle.unl_workers.specs.declared.worker.WorkerSlot.{WorkerSlot}
use Rattle.unl_workers.specs.Accepting.{AcceptsAll}
use Rattle.unl_workers.specs.Serving.{ServesSlot}
use Rattle.unl_workers.specs.Taking.{TakesAndServesAt}

-- the worker, if the job is one
abbrev pub worker_of : {S R L W B : Type 0} → PoolJob S R L W B → Option (WorkerOf S R L W)
worker_of (Worker worker) = Some worker
worker_of (Other job) = None

-- the slot of a worker: its server and its draws
abbrev pub slot_of : {S R L W : Type 0} → WorkerOf S R L W → WorkerSlot S R
slot_of worker = worker.slot

-- the links that a worker took
abbrev pub taken_by : {S R L W : Type 0} → WorkerOf S R L W → List L
taken_by worker = (view worker.pass).taken

-- a worker took links from the queue until it took the entry that marks the end of the queue, and served them with its slot's server
pub record RunsWorker
    {S R L W : Type 0} (Serves : S → Coming → LinkView → LinkView → S → Coming → Type 0) (Keeps : S → S → Type 0)
    (coming_of : R → Coming) (state_of : L → LinkView) (before after : WorkerOf S R L W) : Type 0 where
  pub slot : ServesSlot Serves Keeps coming_of before.slot after.slot
  pub same : IsSamePass before.pass after.pass
  pub took : TakesAndServesAt Serves coming_of state_of (view before.pass) before.slot (view after.pass) after.slot

-- the effect of running a job of the pool, which is a worker or the other job
abbrev pub PoolJobWorked :
    {S R L W B : Type 0} → (WorkerOf S R L W → WorkerOf S R L W → Type 0) → (B → B → Type 0)
    → PoolJob S R L W B → PoolJob S R L W B → Type 0
PoolJobWorked RunsWorker Worked (Worker before) (Worker after) = RunsWorker before after
PoolJobWorked RunsWorker Worked (Worker before) (Other after) = ⊥
PoolJobWorked RunsWorker Worked (Other before) (Worker after) = ⊥
PoolJobWorked RunsWorker Worked (Other before) (Other after) = Worked before after

-- The effect on the door. If the pool ran, the door handed out the number of links in the result's `AcceptOutcome` (`accepted_of`), and is
-- closed unless it failed. If the pool did not run, the door is unchanged.
abbrev pub AcceptedIn : {A : Type 0} → (A → AcceptOutcome) → Result A PoolFault → DoorState → DoorState → Type 0
AcceptedIn accepted_of (Ok done) before after = AcceptsAll (accepted_of done) before after
AcceptedIn accepted_of (Err fault) before after = after ≡ before

-- no fault count fell, and a failure of the door or of the spawner is reported only if its own count rose
pub record HasCauses
    {A : Type 0} (accepted_of : A → AcceptOutcome) (result : Result A PoolFault)
    (of_door of_door_after of_spawner of_spawner_after : ℕ) : Type 0 where
  pub door_later : of_door ≤ of_door_after
  pub spawner_later : of_spawner ≤ of_spawner_after
  pub door : IfOk result (λ done. OnErr (accepted_of done).door (Rose of_door of_door_after))
  pub spawner : result ≡ Err Spawner → Rose of_spawner of_spawner_after
