use Rattle.std.proofs.Common.{◌≡◌, ◌-◌, ◌≤◌, length}
use Rattle.unl_refresh.proofs.Receiving.{Taking}
use Rattle.unl_refresh.proofs.exchange.receive.Given as goal

-- the bytes read so far are held, and the peer has not failed
abbrev pub invariant-loop-room : goal.invariant-loop-room
invariant-loop-room g l = record {
  taking : Taking (g.P.Source.left l.initial.peer) l.reader (g.P.Source.left l.peer);
  other_parts : g.P.Source.other_parts l.peer ≡ g.P.Source.other_parts l.initial.peer;
  later : g.P.Source.faults l.initial.peer ≤ g.P.Source.faults l.peer;
  still : g.P.Source.faults l.peer ≡ g.P.Source.faults l.initial.peer;
}

-- each piece has at least one byte, and the loop ends when 16785409 bytes are held
abbrev pub decreases-loop-room : goal.decreases-loop-room
decreases-loop-room g l = 16785409 - length l.reader
