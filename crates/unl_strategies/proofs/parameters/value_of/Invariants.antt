use Rattle.std.proofs.Common.{◌≡◌, drop}
use Rattle.unl_strategies.specs.Strategy.{value_at}
use Rattle.unl_strategies.proofs.parameters.value_of.Given as goal

abbrev pub invariant-loop-one : goal.invariant-loop-one
invariant-loop-one l = value_at l.key (drop l.one-index l.parameters) ≡ value_at l.key l.parameters
