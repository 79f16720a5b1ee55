use Rattle.std.proofs.Common.{◌+◌}
use Rattle.slab.specs.Slab.{slab_len}
use Rattle.std.specs.VecDeque.{deque_len}
use Rattle.unl_net.specs.EndedConnections.{Accounts}
use Rattle.unl_net.proofs.reactor.Reactor.handle_noted.Given as goal

-- each connection that was waiting or ready before the loop is waiting or ready now, or was counted as ended
abbrev pub invariant-noted : goal.invariant-noted
invariant-noted g l = Accounts 0
    (slab_len l.initial.self.waiting + deque_len l.initial.self.ready) l.initial.self.ended
    (slab_len l.self.waiting + deque_len l.self.ready) l.self.ended
