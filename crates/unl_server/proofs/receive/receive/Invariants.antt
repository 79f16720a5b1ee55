use Rattle.std.proofs.Common.{◌≡◌, ◌-◌, ◌≤◌, length}
use Rattle.unl_server.proofs.ReceiveLemmas.{Taking}
use Rattle.unl_server.proofs.receive.receive.Given as goal

-- the loop invariant of `receive`: the reader holds the bytes that it held before, then all bytes read so far
abbrev pub invariant-loop-received : goal.invariant-loop-received
invariant-loop-received g l = record {
  taking : Taking l.initial.reader (g.L.Source.left l.initial.link) l.reader (g.L.Source.left l.link);
  sent : g.L.Sink.sent l.link ≡ g.L.Sink.sent l.initial.link;
  later : g.L.Source.faults l.initial.link ≤ g.L.Source.faults l.link;
}

-- the loop ends: a turn that continues it adds at least one byte to the reader, which held fewer than 1,056,768 bytes before
abbrev pub decreases-loop-received : goal.decreases-loop-received
decreases-loop-received g l = 1056769 - length l.reader
