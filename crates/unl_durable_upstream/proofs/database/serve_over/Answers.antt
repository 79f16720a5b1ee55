use Rattle.std.proofs.Common.{inl, refl}
use Rattle.unl_durable_upstream.specs.Beginning.{upstream_of}
use Rattle.unl_durable_upstream.specs.Serving.{facing}
use Rattle.unl_durable_upstream.proofs.Closing.{closed_at}
use Rattle.unl_durable_upstream.proofs.database.serve_over.Goals as goal

pub returns-in-Ok-clause-runs : goal.returns-in-Ok-clause-runs
returns-in-Ok-clause-runs g c = record {
  draw = c.draw-boot.result;
  coming = g.R.Draws.coming c.draw-boot.new.self;
  drawn = c.draw-boot.ensures.drawn;
  initial = c.in-Ok.up;
  begins = c.in-Ok.ensures.begins;
  ends = c.serve_database.ensures.ends;
}

pub returns-in-Ok-clause-closed : goal.returns-in-Ok-clause-closed
returns-in-Ok-clause-closed g c =
    closed_at c.in-Ok.up c.args.arguments.now.options.port c.serve_database.result
    (facing (g.D.Door.state c.args.door.now) (g.R.Draws.coming c.draw-boot.new.self))
    (facing (g.D.Door.state c.serve_database.new.door) (g.R.Draws.coming c.serve_database.new.draws)) c.serve_database.ensures.ends

pub returns-in-Err-clause-runs : goal.returns-in-Err-clause-runs
returns-in-Err-clause-runs g c = record {
  draw = c.draw-boot.result;
  coming = g.R.Draws.coming c.draw-boot.new.self;
  drawn = c.draw-boot.ensures.drawn;
  initial = upstream_of c.draw-boot.result.word c.args.arguments.now.options;
  begins = refl;
  ends = inl refl;
}
