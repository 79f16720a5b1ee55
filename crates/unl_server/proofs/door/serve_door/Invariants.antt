use Rattle.std.proofs.Common.{◌≡◌, ◌≤◌}
use Rattle.unl_base.specs.Doors.{IsListening}
use Rattle.unl_server.specs.ServingDoor.{ServesDoorLinks, server_and_door}
use Rattle.unl_server.proofs.door.serve_door.Given as goal

-- the loop invariant of `serve_door`: `served` links were served so far, and the door listens on the same ports
abbrev pub invariant-loop-served : goal.invariant-loop-served
invariant-loop-served g l = record {
  listens : IsListening (g.D.Door.state l.door);
  ports : (g.D.Door.state l.door).ports ≡ (g.D.Door.state l.initial.door).ports;
  fits : g.S.Server.fits l.server;
  keeps : g.S.Server.keeps l.initial.server l.server;
  serves : ServesDoorLinks g.S.Server.serves l.served
      (server_and_door l.initial.server (g.R.Draws.coming l.initial.draws) (g.D.Door.state l.initial.door))
      (server_and_door l.server (g.R.Draws.coming l.draws) (g.D.Door.state l.door));
  later : g.D.Door.faults l.initial.door ≤ g.D.Door.faults l.door;
}
