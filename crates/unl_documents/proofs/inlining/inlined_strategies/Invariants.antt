use Rattle.std.proofs.Common.{◌≡◌, take, map}
use Rattle.unl_documents.specs.Inline.{inlined_strategy}
use Rattle.unl_documents.proofs.inlining.inlined_strategies.Given as goal

abbrev pub invariant-loop-strategy : goal.invariant-loop-strategy
invariant-loop-strategy l = l.inlined ≡ map (inlined_strategy l.segments) (take l.strategy-index l.strategies)
