use Rattle.unl_variants.specs.Variant.{choice_of}
use Rattle.unl_variants.proofs.Choices.{choice_is, chosen_once}
use Rattle.unl_variants.proofs.laws.only_choice_is_chosen.Goals as goal

pub returns : goal.returns
returns c group variants context random choice is =
    chosen_once group variants context random choice (choice_of group variants context random) is (choice_is group variants context random)
