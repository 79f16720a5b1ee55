use Rattle.unl_variants.proofs.Choices.{choice_is}
use Rattle.unl_variants.proofs.laws.choice_is_chosen.Goals as goal

pub returns : goal.returns
returns c = choice_is
