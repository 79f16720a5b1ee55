use Rattle.unl_tokens.proofs.ByText.{grows}
use Rattle.unl_tokens.proofs.indexed.with_new.Goals as goal

pub invariant_of-result : goal.invariant_of-result
invariant_of-result c = rw (c.in_ok-tokens.ensures, c.in_ok-places.ensures, c.len.ensures) (grows c.args.tokens c.args.token c.args.places c.args.at c.requires.index c.requires.fresh c.requires.point c.requires.inside)
