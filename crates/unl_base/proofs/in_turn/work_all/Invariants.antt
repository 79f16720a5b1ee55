use Rattle.std.proofs.Common.{◌≡◌, take, drop}
use Rattle.std.specs.List.{AllZip}
use Rattle.unl_base.proofs.in_turn.work_all.Given as goal

-- The jobs below the index are done, and the others are unchanged.
abbrev pub invariant-loop-job : goal.invariant-loop-job
invariant-loop-job g l =
    AllZip g.J.Job.worked (take l.job-index l.initial.job-items) (take l.job-index l.job-items) × (drop l.job-index l.job-items ≡ drop l.job-index l.initial.job-items)
