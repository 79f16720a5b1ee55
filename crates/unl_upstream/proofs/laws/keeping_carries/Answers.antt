use Rattle.unl_upstream.proofs.Carrying.{carries_all, keeps_both}
use Rattle.unl_upstream.proofs.laws.keeping_carries.Goals as goal

pub returns-clause-carries : goal.returns-clause-carries
returns-clause-carries c = carries_all

pub returns-clause-continues : goal.returns-clause-continues
returns-clause-continues c = keeps_both
