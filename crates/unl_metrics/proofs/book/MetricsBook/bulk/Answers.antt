use Rattle.std.proofs.Common.{◌≡◌, subst, ap, ◌∙◌}
use Rattle.std.proofs.lemmas.Result.{IfOk-weaker}
use Rattle.unl_metrics.specs.Book.{IsMetricsBook}
use Rattle.unl_metrics.specs.Bulk.{bulk}
use Rattle.unl_metrics.proofs.NoFloats.{no_float_sent}
use Rattle.unl_metrics.proofs.Sendable.{sent_back}
use Rattle.unl_metrics.proofs.book.MetricsBook.bulk.Goals as goal

pub returns-clause-reads_back : goal.returns-clause-reads_back
returns-clause-reads_back c = λ sendable.
    let is : IsMetricsBook c.args.self.now = subst IsMetricsBook c.self.view_is c.self.invariant in
    let same : c.as_slice.result.now ≡ c.args.self.now = c.as_slice.ensures.value ∙ c.self.view_is in
    IfOk-weaker c.bulk.result _ _ (λ found report. sent_back c.args.environment.now c.args.self.now found is sendable (report ∙ ap (bulk c.args.environment.now) same)) c.bulk.ensures

pub returns-clause-no_float : goal.returns-clause-no_float
returns-clause-no_float c = IfOk-weaker c.bulk.result _ _ (λ found is. no_float_sent c.args.environment.now c.as_slice.result.now found is) c.bulk.ensures
