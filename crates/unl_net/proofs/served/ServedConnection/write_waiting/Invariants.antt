use Rattle.std.specs.Io.KnownBytes.{Keeps}
use Rattle.unl_net.specs.Buffers.{outgoing}
use Rattle.unl_net.proofs.served.ServedConnection.write_waiting.Given as goal

-- the bytes sent and those still to be sent are unchanged
abbrev pub invariant-waits : goal.invariant-waits
invariant-waits g l = Keeps
    (outgoing (g.S.Write.contents l.initial.self.connection.stream) l.initial.self.connection.to_send)
    (outgoing (g.S.Write.contents l.self.connection.stream) l.self.connection.to_send)
