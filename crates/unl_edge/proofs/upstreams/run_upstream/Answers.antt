use Rattle.std.proofs.Common.{refl}
use Rattle.unl_edge.proofs.Commands.{upstream_runs}
use Rattle.unl_edge.proofs.upstreams.run_upstream.Goals as goal

pub returns-in-Ok-clause-runs : goal.returns-in-Ok-clause-runs
returns-in-Ok-clause-runs g c =
    rw (← c.world.view_is)
    (upstream_runs c.args.words.now c.run_kept.result _
    c.run_kept.new.world c.in-Ok.fresh (g.R.Draws.coming c.draw-boot.new.self)
    (record { draw = c.draw-boot.result; taken = c.draw-boot.ensures.drawn; opens = c.in-Ok.ensures })
    c.run_kept.ensures.ends)

pub returns-in-Ok-clause-frame : goal.returns-in-Ok-clause-frame
returns-in-Ok-clause-frame g c = rw (← c.world.view_is) c.run_kept.ensures.frame

pub returns-in-Err-clause-frame : goal.returns-in-Err-clause-frame
returns-in-Err-clause-frame g c = rw (← c.world.view_is) refl
