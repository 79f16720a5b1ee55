use Rattle.std.specs.Io.KnownBytes.{Keeps}
use Rattle.unl_net.specs.Buffers.{coming}
use Rattle.unl_net.proofs.served.ServedConnection.next_request.Given as goal

-- the bytes to come are unchanged
abbrev pub invariant-pieces : goal.invariant-pieces
invariant-pieces g l = Keeps
    (coming l.initial.self.connection.received (g.S.Read.remaining l.initial.self.connection.stream))
    (coming l.self.connection.received (g.S.Read.remaining l.self.connection.stream))
