use Rattle.unl_context.proofs.Setting.{names_rise}
use Rattle.unl_context.proofs.laws.set_names_rise.Goals as goal

pub returns : goal.returns
returns c = names_rise
