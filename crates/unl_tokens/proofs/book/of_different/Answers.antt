use Rattle.std.proofs.Common.{◌∙◌}
use Rattle.unl_tokens.proofs.Different.{gathered_same}
use Rattle.unl_tokens.proofs.book.of_different.Goals as goal

pub invariant_of-result : goal.invariant_of-result
invariant_of-result c = rw (c.in_ok-tokens.ensures ∙ gathered_same c.args.tokens c.requires.different) c.requires

pub returns : goal.returns
returns c = c.in_ok-tokens.ensures ∙ gathered_same c.args.tokens c.requires.different
