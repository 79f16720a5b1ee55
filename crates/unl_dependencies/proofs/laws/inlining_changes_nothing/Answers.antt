use Rattle.unl_dependencies.proofs.Inlined.{same_evaluation}
use Rattle.unl_dependencies.proofs.laws.inlining_changes_nothing.Goals as goal

pub returns : goal.returns
returns c = same_evaluation
