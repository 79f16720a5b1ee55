use Rattle.std.proofs.Common.{arith, ◌≡◌, refl, rules}
use Rattle.std.proofs.lemmas.Result.{err_from_is_err_and}
use Rattle.unl_input.proofs.Turns.{ends_past, none_left, stops}
use Rattle.unl_input.proofs.Whole.{answers_input, ends_all, ends_at, ends_at_once, ends_unread, processes_line}
use Rattle.unl_input.proofs.taking.process_lines.Goals as goal

pub returns-in-Err-clause-lines : goal.returns-in-Err-clause-lines
returns-in-Err-clause-lines g c =
    ends_at g.A.LineProcessor.line_result _ c.in-Err.fault _ _ c.loop-number.number _ _ c.loop-number.invariant.sofar c.in-Err.ensures.turns

pub loop-number-preserved : goal.loop-number-preserved
loop-number-preserved g c = record {
  sofar = processes_line g.A.LineProcessor.line_result _ _ _ c.loop-number.number _ _ c.loop-number.invariant.sofar (rw (c.in-Ok-Answered.field-0-is) at c.in-Ok-Answered.ensures.turns);
  room = rw (c.in-Ok-Answered.field-0-is) at c.in-Ok-Answered.ensures.room;
  source_later = omega (arith, c.in-Ok-Answered.ensures.source_later, c.loop-number.invariant.source_later);
  sink_later = omega (arith, c.in-Ok-Answered.ensures.sink_later, c.loop-number.invariant.sink_later);
}

pub returns-in-Ok-None-clause-all : goal.returns-in-Ok-None-clause-all
returns-in-Ok-None-clause-all g c =
    ends_all g.A.LineProcessor.line_result _ _ _ c.loop-number.number _
    (record { desk = c.loop-number.desk; held = c.next_byte.new.self; left = g.S.Source.left c.next_byte.new.source; sent = g.K.Sink.sent c.loop-number.sink })
    c.loop-number.invariant.sofar
    (none_left g.A.LineProcessor.line_result c.loop-number.number _
    (record { desk = c.loop-number.desk; held = c.next_byte.new.self; left = g.S.Source.left c.next_byte.new.source; sent = g.K.Sink.sent c.loop-number.sink })
    (rw (c.in-Ok-None.field-0-is) at c.in-Ok-None.ensures.byte) refl refl)

pub returns-in-Ok-Over-clause-lines : goal.returns-in-Ok-Over-clause-lines
returns-in-Ok-Over-clause-lines g c =
    answers_input g.A.LineProcessor.line_result _ _ _ _ _ _
    (ends_all g.A.LineProcessor.line_result _ _ _ c.loop-number.number _ _ c.loop-number.invariant.sofar
    (rw (c.in-Ok-Over.field-0-is) at c.in-Ok-Over.ensures.turns))

pub returns-in-Ok-None-clause-lines : goal.returns-in-Ok-None-clause-lines
returns-in-Ok-None-clause-lines g c =
    answers_input g.A.LineProcessor.line_result _ _ _ _ _ _ (returns-in-Ok-None-clause-all g c)

pub returns-in_err-reader-clause-lines : goal.returns-in_err-reader-clause-lines
returns-in_err-reader-clause-lines g c =
    let memory = err_from_is_err_and c.from_residual.result c.from_residual.ensures.1 in
    rw (memory.1, memory.2) (ends_at_once g.A.LineProcessor.line_result c.args.desk.now (g.S.Source.left c.args.source.now) (g.K.Sink.sent c.args.sink.now))

pub returns-in-Ok-Some-clause-lines : goal.returns-in-Ok-Some-clause-lines
returns-in-Ok-Some-clause-lines g c =
    let last : c.loop-number.number ≡ 1000001 = search rules in
    ends_past g.A.LineProcessor.line_result _ c.refuse.result _ _ c.loop-number.number _
    (record { desk = c.loop-number.desk; held = c.next_byte.new.self; left = g.S.Source.left c.next_byte.new.source; sent = g.K.Sink.sent c.refuse.new.sink })
    c.in-Ok-Some.field-0-0 last c.loop-number.invariant.sofar (rw (c.in-Ok-Some.field-0-is) at c.in-Ok-Some.ensures.byte) c.refuse.ensures.prints

pub returns-clause-lines : goal.returns-clause-lines
returns-clause-lines g c =
    ends_unread g.A.LineProcessor.line_result _ _ _ c.loop-number.number _
    (record { desk = c.loop-number.desk; held = c.next_byte.new.self; left = g.S.Source.left c.next_byte.new.source; sent = g.K.Sink.sent c.loop-number.sink })
    c.loop-number.invariant.sofar (stops _ _ c.in-Err-next_byte.ensures.broken refl)
