use Rattle.unl_explain.proofs.Parts.{active_is_explained}
use Rattle.unl_explain.proofs.laws.active_is_explained.Goals as goal

pub returns : goal.returns
returns c = active_is_explained
