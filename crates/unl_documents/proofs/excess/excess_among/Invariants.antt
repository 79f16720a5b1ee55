use Rattle.std.proofs.Common.{◌≡◌, drop}
use Rattle.std.specs.Prelude.{nat_lt}
use Rattle.std.specs.List.{find}
use Rattle.unl_documents.specs.Inline.{counts}
use Rattle.unl_documents.proofs.excess.excess_among.Given as goal

abbrev pub invariant-loop-strategy : goal.invariant-loop-strategy
invariant-loop-strategy l = find (nat_lt 100) (counts l.segments (drop l.strategy-index l.strategies)) ≡ find (nat_lt 100) (counts l.segments l.strategies)
