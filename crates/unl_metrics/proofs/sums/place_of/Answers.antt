use Rattle.std.proofs.Common.{rules}
use Rattle.std.proofs.lemmas.List.Sorted.{IsPartitionPoint-from_clause}
use Rattle.std.specs.Ordering.{is_lt}
use Rattle.unl_metrics.specs.Book.{key_cmp}
use Rattle.unl_metrics.proofs.Entries.{partitioned, prefix_is}
use Rattle.unl_metrics.proofs.Order.{keys_total}
use Rattle.unl_metrics.proofs.sums.place_of.Goals as goal

pub returns-clause-place : goal.returns-clause-place
returns-clause-place c =
    let rows = c.args.rows.now in
    let key = c.args.row.now.0 in
    prefix_is (λ e. is_lt (key_cmp e.0 key)) rows c.partition_point.result c.partition_point.ensures.bound
    (IsPartitionPoint-from_clause (λ e. is_lt (key_cmp e.0 key)) rows c.partition_point.result c.partition_point.ensures.partitioned (partitioned key_cmp keys_total key rows c.requires) (λ a r f called. search rules))
