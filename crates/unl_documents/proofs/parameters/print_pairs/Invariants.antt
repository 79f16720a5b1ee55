use Rattle.std.proofs.Common.{◌≡◌, ◌++◌, drop}
use Rattle.unl_documents.specs.Tokens.{pair_tokens}
use Rattle.unl_documents.proofs.parameters.print_pairs.Given as goal

abbrev pub invariant-loop-pair : goal.invariant-loop-pair
invariant-loop-pair l = record {
  before : l.out.before ≡ l.initial.out.before;
  rest : l.out.tokens ++ pair_tokens (drop l.pair-index l.pairs) ≡ l.initial.out.tokens ++ pair_tokens l.pairs;
}
