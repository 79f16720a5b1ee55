use Rattle.unl_core.proofs.TagLemmas.{tag_is}
use Rattle.unl_core.proofs.laws.tag_is_of_its_number.Goals as goal

pub returns : goal.returns
returns c = tag_is
