use Rattle.std.proofs.Common.{◌≡◌, ◌++◌, take, drop}
use Rattle.unl_tokens.specs.Requests.{known, known_after, token_tokens}
use Rattle.unl_tokens.proofs.Marks.{Marked}
use Rattle.unl_tokens.proofs.validate.print_known.Given as goal

-- what is printed so far, followed by what is left to print, is the whole; a token is marked if its text was asked for so far
abbrev pub invariant-loop-text : goal.invariant-loop-text
invariant-loop-text l = record {
  before : l.out.before ≡ l.initial.out.before;
  rest : l.out.tokens ++ token_tokens (known_after l.tokens (take l.text-index l.asked) (drop l.text-index l.asked)) ≡ l.initial.out.tokens ++ token_tokens (known l.tokens l.asked);
  marks : Marked l.tokens (take l.text-index l.asked) l.answered.items;
}
