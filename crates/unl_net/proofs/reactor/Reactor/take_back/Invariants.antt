use Rattle.std.proofs.Common.{◌+◌}
use Rattle.slab.specs.Slab.{slab_len}
use Rattle.std.specs.VecDeque.{deque_len}
use Rattle.unl_net.specs.EndedConnections.{Accounts}
use Rattle.unl_net.proofs.reactor.Reactor.take_back.Given as goal

-- each connection that was held or taken back is held or was counted as ended
abbrev pub invariant-returned : goal.invariant-returned
invariant-returned g l = Accounts l.taken
    (slab_len l.initial.self.waiting + deque_len l.initial.self.ready) l.initial.self.ended
    (slab_len l.self.waiting + deque_len l.self.ready) l.self.ended
