use Rattle.std.proofs.Common.{◌≡◌, map, take}
use Rattle.unl_compiled.proofs.feature.compiled_each.Given as goal

abbrev pub invariant-loop-strategy : goal.invariant-loop-strategy
invariant-loop-strategy l = l.all ≡ map (λ s. s.constraints) (take l.strategy-index l.strategies)
