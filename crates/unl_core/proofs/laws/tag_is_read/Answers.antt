use Rattle.unl_core.proofs.TagLemmas.{is_read}
use Rattle.unl_core.proofs.laws.tag_is_read.Goals as goal

pub returns : goal.returns
returns c = is_read
