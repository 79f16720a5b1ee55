use Rattle.unl_dependencies.proofs.Lawful.{each_is_found}
use Rattle.unl_dependencies.proofs.laws.each_is_found.Goals as goal

pub returns : goal.returns
returns c state place f context moment valid is = each_is_found state place f context moment valid.names is
