use Rattle.unl_metrics.proofs.Sendable.{entries_sendable, sums_sendable, rest_sendable}
use Rattle.unl_metrics.proofs.laws.what_is_read_may_be_sent.Goals as goal

pub returns-clause-entries : goal.returns-clause-entries
returns-clause-entries c = entries_sendable

pub returns-clause-sums : goal.returns-clause-sums
returns-clause-sums c = sums_sendable

pub returns-clause-rest : goal.returns-clause-rest
returns-clause-rest c = rest_sendable
