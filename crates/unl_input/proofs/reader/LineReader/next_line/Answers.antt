use Rattle.std.proofs.Common.{arith, rules}
use Rattle.std.proofs.lemmas.Result.{err_from_is_err_and}
use Rattle.unl_input.proofs.Lines.{line_ends, line_grows, line_is_long, stops_in_line}
use Rattle.unl_input.proofs.reader.LineReader.next_line.Goals as goal

pub returns-then-branch-clause-next : goal.returns-then-branch-clause-next
returns-then-branch-clause-next g c =
    line_ends _ _ c.fill.new.self _ _ _ _ c.pieces.line.items _ c.pieces.invariant.unbroken c.pieces.invariant.got
    (search rules) (search rules)

pub pieces-preserved : goal.pieces-preserved
pieces-preserved g c =
    let grown = line_grows _ _ c.fill.new.self c.take_piece.new.self _ _ (g.S.Source.left c.fill.new.source)
    c.pieces.line.items c.take_piece.new.line.items c.pieces.invariant.unbroken c.pieces.invariant.got (search rules) (search rules) in
    record { got = grown.0; unbroken = grown.1; later = omega (arith, c.pieces.invariant.later, c.fill.ensures.cause.later) }

pub returns-clause-fault : goal.returns-clause-fault
returns-clause-fault g c =
    line_is_long _ _ _ _ c.pieces.line.items c.pieces.invariant.unbroken
    (omega (arith, c.pieces-test.false, c.len.ensures, c.pieces.line.ok)) c.pieces.invariant.got

pub returns-in_err-take_piece-clause-fault : goal.returns-in_err-take_piece-clause-fault
returns-in_err-take_piece-clause-fault g c =
    let fault = c.from_residual-in_err-take_piece in
    let memory = err_from_is_err_and fault.result fault.ensures.1 in
    rw (memory.1, memory.2)
    (stops_in_line _ _ c.fill.new.self c.take_piece.new.self _ _ (g.S.Source.left c.fill.new.source) c.pieces.line.items
    c.pieces.invariant.unbroken c.pieces.invariant.got (search rules) (search rules))
