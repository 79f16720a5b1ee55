use Rattle.std.proofs.Common.{rules}
use Rattle.unl_input.proofs.Outcomes.{ends_answered, ends_broken, ends_refused, ends_too_large}
use Rattle.unl_input.proofs.answering.answer_input.Goals as goal

pub returns-in-Err-TooLarge-clause-answers : goal.returns-in-Err-TooLarge-clause-answers
returns-in-Err-TooLarge-clause-answers g c =
    let read = rw (c.in-Err-TooLarge.field-0-is) at c.in-Err-TooLarge.ensures.read in
    ends_too_large (g.A.InputAnswer.reads c.args.asked.now) g.A.InputAnswer.says _ _ _ read

pub returns-in-Err-clause-answers : goal.returns-in-Err-clause-answers
returns-in-Err-clause-answers g c =
    ends_refused c.in-Err.fault (g.A.InputAnswer.reads c.args.asked.now) g.A.InputAnswer.says _ _ _ c.in-Ok.bytes c.in-Ok.ensures.read
    (rw (← c.as_slice.ensures) (c.in-Err.ensures (search rules)))

pub returns-in-Ok-write_all-clause-answers : goal.returns-in-Ok-write_all-clause-answers
returns-in-Ok-write_all-clause-answers g c =
    ends_answered c.in-Ok-answer.answer (g.A.InputAnswer.reads c.args.asked.now) g.A.InputAnswer.says _ _ _ _ c.in-Ok.bytes c.in-Ok.ensures.read
    (rw (← c.as_slice.ensures) c.in-Ok-answer.ensures) (rw (← c.text.ensures) c.in-Ok-write_all.ensures.ok)

pub returns-clause-answers : goal.returns-clause-answers
returns-clause-answers g c =
    ends_broken c.in-Ok-answer.answer (g.A.InputAnswer.reads c.args.asked.now) g.A.InputAnswer.says _ _ _ _ c.in-Ok.bytes c.in-Ok.ensures.read
    (rw (← c.as_slice.ensures) c.in-Ok-answer.ensures) (rw (← c.text.ensures) c.in-Err-write_all.ensures.err)
