use Rattle.unl_metrics.proofs.Lookups.{entries_at_key, books_at_key, variants_at_name, sum_in_order}
use Rattle.unl_metrics.proofs.laws.sums_are_sums_at_each_key.Goals as goal

pub returns-clause-entries : goal.returns-clause-entries
returns-clause-entries c = entries_at_key

pub returns-clause-books : goal.returns-clause-books
returns-clause-books c = books_at_key

pub returns-clause-variants : goal.returns-clause-variants
returns-clause-variants c = variants_at_name

pub returns-clause-order : goal.returns-clause-order
returns-clause-order c = sum_in_order
