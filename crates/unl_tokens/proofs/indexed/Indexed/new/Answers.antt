use Rattle.unl_tokens.proofs.ByText.{nothing_listed}
use Rattle.unl_tokens.proofs.indexed.Indexed.new.Goals as goal

pub invariant_of-result : goal.invariant_of-result
invariant_of-result c = rw (c.new.ensures, c.new-2.ensures) nothing_listed
