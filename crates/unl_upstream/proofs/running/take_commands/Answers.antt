use Rattle.std.proofs.Common.{refl, rules}
use Rattle.unl_upstream.specs.Running.{upstream_facing}
use Rattle.unl_keeper.specs.State.{HasKept}
use Rattle.unl_upstream.specs.Kept.{kept_state}
use Rattle.unl_upstream.proofs.AfterLines.{after_lines, silent_at}
use Rattle.unl_upstream.proofs.running.take_commands.Goals as goal

pub returns-in-Ok-clause-ends : goal.returns-in-Ok-clause-ends
returns-in-Ok-clause-ends g c =
    let has : HasKept (g.K.Keeper.state c.kept.inside.keeper) = search rules in
    after_lines (kept_state c.args.up (g.K.Keeper.state c.args.keeper))
    (kept_state c.kept.inside.up (g.K.Keeper.state c.kept.inside.keeper)) c.args.port
    (kept_state c.serve_links-end.new.up (g.K.Keeper.state c.serve_links-end.new.keeper))
    c.process_lines-processed.new.desk c.serve_links-end.result
    (g.I.Source.left c.args.input.now) (g.I.Source.left c.process_lines-processed.new.source)
    (upstream_facing (g.O.Sink.sent c.args.output.now) (g.D.Door.state c.args.door.now) (g.R.Draws.coming c.args.draws.now))
    (upstream_facing (g.O.Sink.sent c.serve_links-end.new.output) (g.D.Door.state c.serve_links-end.new.door)
    (g.R.Draws.coming c.serve_links-end.new.draws))
    (g.O.Sink.sent c.process_lines-processed.new.sink) has c.kept.view_is c.in-Ok.ensures.all c.serve_links-end.ensures.ends

pub returns-in-Err-Memory-clause-ends : goal.returns-in-Err-Memory-clause-ends
returns-in-Err-Memory-clause-ends g c = record {
  silent = silent_at (kept_state c.args.up (g.K.Keeper.state c.args.keeper))
      c.process_lines-processed.result (g.I.Source.left c.args.input.now) (g.I.Source.left c.process_lines-processed.new.source)
      (g.O.Sink.sent c.args.output.now) (g.O.Sink.sent c.process_lines-processed.new.sink) (search rules)
      c.process_lines-processed.ensures.lines;
  shut = refl;
}
