use Rattle.std.proofs.lemmas.Result.{IfOk-weaker}
use Rattle.unl_metrics.proofs.Members.{are_entries}
use Rattle.unl_metrics.proofs.report.Report.read_single.Goals as goal

pub returns-clause-valid : goal.returns-clause-valid
returns-clause-valid c = IfOk-weaker c.single_report.result _ _ are_entries c.single_report.ensures.readable
