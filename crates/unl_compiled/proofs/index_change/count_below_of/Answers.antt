use Rattle.std.proofs.Common.{ℕ, rules}
use Rattle.std.specs.Prelude.{nat_lt}
use Rattle.std.proofs.lemmas.List.Sorted.{IsPartitionPoint-from_clause}
use Rattle.unl_constraints.proofs.Searching.{prefix_is}
use Rattle.unl_compiled.proofs.index_change.count_below_of.Goals as goal

pub returns-clause-cut : goal.returns-clause-cut
returns-clause-cut c parted =
    let places = c.args.places.now in
    let below = λ (n : ℕ). nat_lt n c.args.place in
    prefix_is below places c.partition_point.result c.partition_point.ensures.bound (IsPartitionPoint-from_clause below places c.partition_point.result c.partition_point.ensures.partitioned parted (λ a r f called. search rules))
