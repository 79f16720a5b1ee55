use Rattle.std.proofs.Common.{◌≡◌, ◌++◌, drop}
use Rattle.std.specs.Prelude.{map}
use Rattle.unl_documents.specs.Tokens.{all_tokens}
use Rattle.unl_documents.proofs.write_json.print_each.Given as goal

abbrev pub invariant-loop-item : goal.invariant-loop-item
invariant-loop-item g l = record {
  before : l.out.before ≡ l.initial.out.before;
  rest : l.out.tokens ++ all_tokens (map g.P.WriteJson.written (drop l.item-index l.items)) ≡ l.initial.out.tokens ++ all_tokens (map g.P.WriteJson.written l.items);
}
