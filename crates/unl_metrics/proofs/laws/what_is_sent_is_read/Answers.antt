use Rattle.unl_metrics.proofs.Depths.{shallow}
use Rattle.unl_metrics.proofs.RoundTrip.{text_back}
use Rattle.unl_metrics.proofs.Sendable.{book_back}
use Rattle.unl_metrics.proofs.Sending.{entries_again}
use Rattle.unl_metrics.proofs.laws.what_is_sent_is_read.Goals as goal

pub returns-clause-entries : goal.returns-clause-entries
returns-clause-entries c = entries_again

pub returns-clause-report : goal.returns-clause-report
returns-clause-report c = text_back

pub returns-clause-depth : goal.returns-clause-depth
returns-clause-depth c = shallow

pub returns-clause-book : goal.returns-clause-book
returns-clause-book c = book_back
