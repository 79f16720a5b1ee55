use Rattle.unl_base.proofs.Doing.{done_one}
use Rattle.unl_base.proofs.in_turn.work_all.Goals as goal

pub loop-job-preserved : goal.loop-job-preserved
loop-job-preserved g c =
    done_one g.J.Job.worked c.args.jobs.now c.loop-job.job-items c.loop-job.job-index c.job-item.result c.work.new.self c.loop-job-test.true
    c.loop-job.auto.job-items c.loop-job.invariant.0 c.loop-job.invariant.1 c.work.ensures
