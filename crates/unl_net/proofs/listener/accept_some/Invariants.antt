use Rattle.std.proofs.Common.{◌+◌}
use Rattle.slab.specs.Slab.{slab_len}
use Rattle.std.specs.VecDeque.{deque_len}
use Rattle.unl_net.specs.EndedConnections.{Accounts}
use Rattle.unl_net.proofs.listener.accept_some.Given as goal

-- each connection that was held or accepted is held or was counted as ended
abbrev pub invariant-accepted : goal.invariant-accepted
invariant-accepted g l = Accounts l.accepted
    (slab_len l.initial.reactor.waiting + deque_len l.initial.reactor.ready) l.initial.reactor.ended
    (slab_len l.reactor.waiting + deque_len l.reactor.ready) l.reactor.ended
