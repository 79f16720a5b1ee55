use Rattle.unl_replay.proofs.Delivering.{replays_lines}
use Rattle.unl_replay.proofs.replaying.replay.Goals as goal

pub returns-clause-replays : goal.returns-clause-replays
returns-clause-replays g c =
    replays_lines c.answer_lines.result (g.S.Source.left c.args.source.now) (g.S.Source.left c.answer_lines.new.source)
    (g.K.Sink.sent c.args.sink.now) (g.K.Sink.sent c.answer_lines.new.sink) c.answer_lines.ensures.lines
