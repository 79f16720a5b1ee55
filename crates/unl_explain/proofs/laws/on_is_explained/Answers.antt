use Rattle.unl_explain.proofs.Parts.{on_is_explained}
use Rattle.unl_explain.proofs.laws.on_is_explained.Goals as goal

pub returns : goal.returns
returns c = on_is_explained
