use Rattle.std.proofs.Common.{◌≡◌, ◌≤◌, ◌-◌, length, false}
use Rattle.unl_input.specs.Lines.{has_end}
use Rattle.unl_input.specs.Reading.{Gets}
use Rattle.unl_input.proofs.reader.LineReader.next_line.Given as goal

-- the part of the line so far was consumed and has no line feed, and the source's fault count has not fallen
abbrev pub invariant-pieces : goal.invariant-pieces
invariant-pieces g l = record {
  got : Gets l.initial.self (g.S.Source.left l.initial.source) l.line.items l.self (g.S.Source.left l.source);
  unbroken : has_end l.line.items ≡ false;
  later : g.S.Source.faults l.initial.source ≤ g.S.Source.faults l.source;
}

abbrev pub decreases-pieces : goal.decreases-pieces
decreases-pieces g l = 16777217 - length l.line.items
