use Rattle.std.proofs.Common.{◌-◌, length, arith, rules}
use Rattle.unl_input.proofs.Lines.{piece_ends, piece_grows}
use Rattle.unl_input.proofs.reader.LineReader.take_piece.Goals as goal

pub returns-then-len-prefix-clause-piece : goal.returns-then-len-prefix-clause-piece
returns-then-len-prefix-clause-piece c =
    piece_ends c.args.line.now.items c.args.self.now (16777217 - length c.args.line.now.items) c.prefix-prefix.result.now
    c.unbroken_len-len.result c.extend_from_slice.new.self.items c.skip.new.self
    (search rules) (omega (arith, c.requires.short)) (search rules) (search rules)

pub returns-clause-piece : goal.returns-clause-piece
returns-clause-piece c =
    piece_grows c.args.line.now.items c.args.self.now (16777217 - length c.args.line.now.items) c.prefix-prefix.result.now
    c.unbroken_len-len.result c.extend_from_slice.new.self.items c.skip-2.new.self
    (search rules) (omega (arith, c.requires.short)) c.requires.held (search rules) (search rules)
