use Rattle.std.proofs.Common.{◌≡◌}
use Rattle.std.specs.Io.KnownBytes.{Keeps}
use Rattle.unl_net.specs.Buffers.{HasPrefix, coming, unread}
use Rattle.unl_net.proofs.connection.Connection.receive_pieces.Given as goal

-- the bytes to come and whether the connection is to be closed are unchanged, and no received byte is lost
abbrev pub invariant-pieces : goal.invariant-pieces
invariant-pieces g l = Keeps
    (coming l.initial.self.received (g.S.Read.remaining l.initial.self.stream))
    (coming l.self.received (g.S.Read.remaining l.self.stream))
    × (l.self.closing ≡ l.initial.self.closing)
    × HasPrefix (unread l.initial.self.received) (unread l.self.received)
