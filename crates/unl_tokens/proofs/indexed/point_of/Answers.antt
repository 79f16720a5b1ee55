use Rattle.std.proofs.Common.{rules}
use Rattle.std.proofs.lemmas.List.Sorted.{IsPartitionPoint-from_clause}
use Rattle.unl_tokens.specs.Index.{is_below}
use Rattle.unl_tokens.proofs.ByText.{partitioned}
use Rattle.unl_tokens.proofs.indexed.point_of.Goals as goal

pub returns-clause-point : goal.returns-clause-point
returns-clause-point c =
    let places = c.as_slice.result.now in
    let below = is_below c.args.tokens.now c.args.text.now in
    let parted = partitioned c.args.tokens.now c.args.text.now places (rw c.as_slice.ensures c.requires.rising) in
    rw (← c.as_slice.ensures) (IsPartitionPoint-from_clause below places c.partition_point.result c.partition_point.ensures.partitioned parted (λ a r f called. search rules))
