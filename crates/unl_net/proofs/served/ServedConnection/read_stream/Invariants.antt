use Rattle.std.proofs.Common.{◌≡◌}
use Rattle.std.specs.Io.KnownBytes.{Keeps}
use Rattle.unl_net.proofs.served.ServedConnection.read_stream.Given as goal

-- nothing was read from the stream, and the bytes received before are unchanged
abbrev pub invariant-waits : goal.invariant-waits
invariant-waits g l = Keeps (g.S.Read.remaining l.initial.self.connection.stream) (g.S.Read.remaining l.self.connection.stream)
    × (l.self.connection.received ≡ l.initial.self.connection.received)
