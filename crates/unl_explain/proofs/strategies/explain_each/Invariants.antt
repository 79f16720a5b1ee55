use Rattle.std.proofs.Common.{◌≡◌, ◌++◌, drop}
use Rattle.unl_explain.specs.Reasons.{reasons_from}
use Rattle.unl_explain.proofs.strategies.explain_each.Given as goal

abbrev pub invariant-loop-strategy : goal.invariant-loop-strategy
invariant-loop-strategy l = record {
  counts : l.place ≡ l.strategy-index;
  goes_on : l.reasons ++ reasons_from l.place (drop l.strategy-index l.strategies) l.feature l.segments l.context l.moment ≡ reasons_from 0 l.strategies l.feature l.segments l.context l.moment;
}
