use Rattle.unl_explain.proofs.Parts.{evaluation_is_explained}
use Rattle.unl_explain.proofs.laws.evaluation_is_explained.Goals as goal

pub returns : goal.returns
returns c = evaluation_is_explained
