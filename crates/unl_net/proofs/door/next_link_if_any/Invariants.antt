use Rattle.std.proofs.Common.{◌+◌}
use Rattle.slab.specs.Slab.{slab_len}
use Rattle.std.specs.VecDeque.{deque_len}
use Rattle.unl_net.specs.EndedConnections.{LosesNone}
use Rattle.unl_net.proofs.door.next_link_if_any.Given as goal

-- each connection that was held or arrived is held or was counted as ended
abbrev pub invariant-turns : goal.invariant-turns
invariant-turns g l = LosesNone l.initial.reports.arrived
    (slab_len l.initial.reactor.waiting + deque_len l.initial.reactor.ready) l.initial.reactor.ended
    l.reports.arrived (slab_len l.reactor.waiting + deque_len l.reactor.ready) l.reactor.ended
