use Rattle.std.proofs.Common.{◌∙◌}
use Rattle.std.proofs.lemmas.Result.{IfOk-weaker}
use Rattle.unl_load.proofs.Made.{digits}
use Rattle.unl_load.proofs.documents.name_of.Goals as goal

pub returns : goal.returns
returns c = IfOk-weaker c.format.result _ _ (λ name is. is ∙ digits c.args.place) c.format.ensures.ok
