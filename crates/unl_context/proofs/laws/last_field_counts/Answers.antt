use Rattle.unl_context.proofs.Setting.{last_field}
use Rattle.unl_context.proofs.laws.last_field_counts.Goals as goal

pub returns : goal.returns
returns c = last_field
