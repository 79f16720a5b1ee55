use Rattle.std.proofs.Common.{refl}
use Rattle.unl_input.proofs.Turns.{last_answered, last_errs, line_errs, long_errs, runs_out}
use Rattle.unl_input.proofs.taking.turn.Goals as goal

pub returns-in-Ok-Line-clause-turns : goal.returns-in-Ok-Line-clause-turns
returns-in-Ok-Line-clause-turns g c =
    line_errs g.A.LineProcessor.line_result c.in-Err.fault c.args.number _ _ c.in-Ok-Line.line.items c.requires.few
    (rw (c.in-Ok-Line.field-0-is) at c.in-Ok-Line.ensures.next) (rw (c.deref.ensures.value) at c.in-Err.ensures.prints)

pub returns-in-Ok-print_answer-clause-turns : goal.returns-in-Ok-print_answer-clause-turns
returns-in-Ok-print_answer-clause-turns g c =
    last_answered g.A.LineProcessor.line_result c.args.number _ _ c.in-Ok-Last.line.items c.in-Ok-print_answer.field-0 c.requires.few
    (rw (c.in-Ok-Last.field-0-is) at c.in-Ok-Last.ensures.next) (rw (c.deref-in-Ok-Last.ensures.value) at c.in-Ok-print_answer.ensures.prints)

pub returns-in-Ok-Last-clause-turns : goal.returns-in-Ok-Last-clause-turns
returns-in-Ok-Last-clause-turns g c =
    last_errs g.A.LineProcessor.line_result c.in-Err-print_answer.fault c.args.number _ _ c.in-Ok-Last.line.items c.requires.few
    (rw (c.in-Ok-Last.field-0-is) at c.in-Ok-Last.ensures.next) (rw (c.deref-in-Ok-Last.ensures.value) at c.in-Err-print_answer.ensures.prints)

pub returns-in-Err-TooLong-clause-turns : goal.returns-in-Err-TooLong-clause-turns
returns-in-Err-TooLong-clause-turns g c =
    long_errs g.A.LineProcessor.line_result c.refuse.result c.args.number _ _ c.requires.few
    (rw (c.in-Err-TooLong.field-0-is) at c.in-Err-TooLong.ensures.fault) c.refuse.ensures.prints

pub returns-in-Err-Memory-clause-turns : goal.returns-in-Err-Memory-clause-turns
returns-in-Err-Memory-clause-turns g c =
    runs_out _ _ (rw (c.in-Err-Memory.field-0-is) at c.in-Err-Memory.ensures.fault) refl
