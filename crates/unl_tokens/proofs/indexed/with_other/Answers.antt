use Rattle.unl_tokens.proofs.ByText.{stays}
use Rattle.unl_tokens.proofs.indexed.with_other.Goals as goal

pub invariant_of-result : goal.invariant_of-result
invariant_of-result c = rw c.replaced-tokens.ensures (stays c.args.tokens c.args.place c.args.token c.args.places c.requires.index c.requires.represents)
