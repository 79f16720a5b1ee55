use Rattle.std.proofs.lemmas.Result.{err_from_is_err_and}
use Rattle.unl_input.proofs.Whole.{ends_at_once}
use Rattle.unl_replay.specs.Replay.{line_answer, empty_replay}
use Rattle.unl_replay.proofs.replaying.answer_lines.Goals as goal

pub returns-in_err-state-clause-lines : goal.returns-in_err-state-clause-lines
returns-in_err-state-clause-lines g c =
    let memory = err_from_is_err_and c.from_residual.result c.from_residual.ensures.1 in
    rw (memory.1, memory.2) (ends_at_once line_answer empty_replay (g.S.Source.left c.args.source.now) (g.K.Sink.sent c.args.sink.now))
