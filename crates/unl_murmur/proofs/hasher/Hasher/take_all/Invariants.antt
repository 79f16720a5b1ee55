use Rattle.std.proofs.Common.{length}
use Rattle.unl_murmur.specs.Hashing.{AddsBytes}
use Rattle.unl_murmur.proofs.hasher.Hasher.take_all.Given as goal

abbrev pub invariant-loop-byte : goal.invariant-loop-byte
invariant-loop-byte l = AddsBytes l.fn.self l.fn.piece l.self l.rest

abbrev pub decreases-loop-byte : goal.decreases-loop-byte
decreases-loop-byte l = length l.rest
