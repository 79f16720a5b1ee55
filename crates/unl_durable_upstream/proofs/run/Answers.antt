use Rattle.unl_durable_upstream.proofs.Closing.{reads_and_runs}
use Rattle.unl_durable_upstream.proofs.run.Goals as goal

pub returns-in-Ok-new : goal.returns-in-Ok-new
returns-in-Ok-new g c =
    reads_and_runs c.in-Ok.ensures.reads.0 c.serve_file.result c.in-Ok.arguments _ _ c.serve_file.ensures.runs c.in-Ok.ensures.reads.1
    (record { silent = c.in-Ok-new.ensures.no_port; given = c.in-Ok-new.ensures.new.1; back = c.in-Ok-new.ensures.new.2 })
