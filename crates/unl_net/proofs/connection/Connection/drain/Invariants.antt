use Rattle.std.proofs.Common.{◌≡◌}
use Rattle.unl_net.proofs.connection.Connection.drain.Given as goal

-- whether the connection is to be closed is unchanged
abbrev pub invariant-pieces : goal.invariant-pieces
invariant-pieces g l = l.self.closing ≡ l.initial.self.closing
