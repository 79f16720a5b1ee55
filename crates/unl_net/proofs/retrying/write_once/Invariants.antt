use Rattle.std.specs.Io.KnownBytes.{Keeps}
use Rattle.unl_net.proofs.retrying.write_once.Given as goal

-- the calls so far failed, and the known bytes stayed
abbrev pub invariant-tries : goal.invariant-tries
invariant-tries g l = Keeps (g.W.Write.contents l.initial.writer) (g.W.Write.contents l.writer)
