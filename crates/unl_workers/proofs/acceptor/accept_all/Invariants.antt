use Rattle.std.proofs.Common.{◌≡◌, ◌≤◌, List, length}
use Rattle.crossbeam_queue.specs.Passes.{view, IsSamePass}
use Rattle.unl_base.specs.Doors.{IsListening}
use Rattle.unl_workers.specs.Accepting.{HandsOut}
use Rattle.unl_workers.specs.Queueing.{QueuesLinks}
use Rattle.unl_workers.proofs.acceptor.accept_all.Given as goal

-- `count` links were handed out and put so far
abbrev pub invariant-loop-count : goal.invariant-loop-count
invariant-loop-count g l = record {
  hands : HandsOut l.count (g.D.Door.state l.initial.door) (g.D.Door.state l.door);
  listens : IsListening (g.D.Door.state l.door);
  same : IsSamePass l.initial.pass l.pass;
  puts : (links : List g.row.D-L.Denot)
      × QueuesLinks g.D.L.Source.left g.D.L.Sink.sent g.D.L.Source.faults (view l.initial.pass).may_put links
      (view l.initial.pass) (g.D.Door.state l.initial.door) (view l.pass) (g.D.Door.state l.door) × (length links ≡ l.count);
  later : g.D.Door.faults l.initial.door ≤ g.D.Door.faults l.door;
}
