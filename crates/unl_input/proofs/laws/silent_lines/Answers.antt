use Rattle.unl_input.proofs.Silent.{prints_cause_alone}
use Rattle.unl_input.proofs.laws.silent_lines.Goals as goal

pub returns : goal.returns
returns g c = prints_cause_alone g.A.LineProcessor.line_result
