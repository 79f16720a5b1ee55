use Rattle.std.proofs.Common.{◌≡◌, ◌<◌, ◌≤◌, ◌+◌, ◌-◌, ◌^◌, drop, length, map}
use Rattle.unl_refresh.specs.Connects.{Connects}
use Rattle.unl_refresh.specs.Exchange.{peer_view}
use Rattle.unl_refresh.specs.SlotParameters.{parameters_of, tag_of}
use Rattle.unl_refresh.specs.Turns.{PollsSlotsFrom, PollState, StopsFrom, poll_state}
use Rattle.unl_refresh.proofs.asking.poll_slots.Given as goal

-- the slots before this one were polled: if the rest is polled, all are; if memory runs out at one of the rest, it runs out at one of all
abbrev pub invariant-loop-slot : goal.invariant-loop-slot
invariant-loop-slot g l = record {
  places : length (g.I.Installer.installed l.to).places ≡ length (g.I.Installer.installed l.initial.to).places;
  front : (g.I.Installer.installed l.to).front ≤ (g.I.Installer.installed l.initial.to).front + l.slot;
  size : length l.slot_pollers ≡ length l.initial.slot_pollers;
  same : map parameters_of l.slot_pollers ≡ map parameters_of l.initial.slot_pollers;
  asks : (g.I.Installer.installed l.initial.to).front + length l.initial.slot_pollers < 2 ^ 64 - 1
      → Connects l.slot (g.P.Peer.state l.initial.peer).replies (g.P.Source.faults l.initial.peer) (g.P.Peer.state l.peer).replies (g.P.Source.faults l.peer);
  connects : Connects 0 (g.P.Peer.state l.initial.peer).replies (g.P.Source.faults l.initial.peer) (g.P.Peer.state l.peer).replies (g.P.Source.faults l.peer);
  polls : (g.I.Installer.installed l.initial.to).front + length l.initial.slot_pollers < 2 ^ 64 - 1
      → (last : PollState)
      → PollsSlotsFrom l.slot (drop l.slot (map parameters_of l.initial.slot_pollers))
      (poll_state (g.I.Installer.installed l.to) (map tag_of l.slot_pollers) l.book
      (peer_view (g.P.Peer.state l.peer) (g.P.Source.faults l.peer))) last
      → PollsSlotsFrom 0 (map parameters_of l.initial.slot_pollers)
      (poll_state (g.I.Installer.installed l.initial.to) (map tag_of l.initial.slot_pollers) l.initial.book
      (peer_view (g.P.Peer.state l.initial.peer) (g.P.Source.faults l.initial.peer))) last;
  stops : (g.I.Installer.installed l.initial.to).front + length l.initial.slot_pollers < 2 ^ 64 - 1
      → (last : PollState)
      → StopsFrom l.slot (drop l.slot (map parameters_of l.initial.slot_pollers))
      (poll_state (g.I.Installer.installed l.to) (map tag_of l.slot_pollers) l.book
      (peer_view (g.P.Peer.state l.peer) (g.P.Source.faults l.peer))) last
      → StopsFrom 0 (map parameters_of l.initial.slot_pollers)
      (poll_state (g.I.Installer.installed l.initial.to) (map tag_of l.initial.slot_pollers) l.initial.book
      (peer_view (g.P.Peer.state l.initial.peer) (g.P.Source.faults l.initial.peer))) last;
}
