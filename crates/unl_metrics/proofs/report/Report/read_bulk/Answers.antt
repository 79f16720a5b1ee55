use Rattle.std.proofs.lemmas.Result.{IfOk-weaker}
use Rattle.unl_metrics.proofs.Members.{are_entries}
use Rattle.unl_metrics.proofs.report.Report.read_bulk.Goals as goal

pub returns-clause-valid : goal.returns-clause-valid
returns-clause-valid c = IfOk-weaker c.bulk_report.result _ _ are_entries c.bulk_report.ensures.readable
