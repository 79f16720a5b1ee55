use Rattle.std.proofs.Common.{◌≡◌, ◌≤◌, ◌<◌, ◌-◌, length}
use Rattle.unl_base.specs.Streams.{Takes}
use Rattle.unl_input.proofs.reading.read_to_end.Given as goal

-- The bytes collected so far were taken from the source, its fault count is unchanged, and the read buffer is not of length 0.
abbrev pub invariant-reads : goal.invariant-reads
invariant-reads g l = record {
  took : Takes (g.S.Source.left l.initial.source) l.bytes.items (g.S.Source.left l.source);
  later : g.S.Source.faults l.initial.source ≤ g.S.Source.faults l.source;
  still : g.S.Source.faults l.source ≡ g.S.Source.faults l.initial.source;
  room : 0 < length l.room;
}

abbrev pub decreases-reads : goal.decreases-reads
decreases-reads g l = 16777217 - length l.bytes.items
