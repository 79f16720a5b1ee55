use Rattle.std.proofs.Common.{◌≡◌, false, map, take}
use Rattle.unl_tokens.specs.declared.token.Token.{Token}
use Rattle.unl_tokens.proofs.validate.no_marks.Given as goal

abbrev pub invariant-loop-token : goal.invariant-loop-token
invariant-loop-token l = l.marks.items ≡ map (λ (t : Token). false) (take l.token-index l.tokens)
