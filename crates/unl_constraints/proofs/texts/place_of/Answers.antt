use Rattle.std.proofs.Common.{rules}
use Rattle.std.proofs.lemmas.List.{map-id}
use Rattle.std.proofs.lemmas.List.Sorted.{IsPartitionPoint-from_clause}
use Rattle.unl_constraints.proofs.Searching.{is_below, partitioned, prefix_is}
use Rattle.unl_constraints.proofs.texts.place_of.Goals as goal

pub returns : goal.returns
returns c =
    let values = c.args.values.now in
    let below = is_below (λ value. value) c.args.text.now in
    prefix_is below values c.partition_point.result c.partition_point.ensures.bound (IsPartitionPoint-from_clause below values c.partition_point.result c.partition_point.ensures.partitioned (partitioned (λ value. value) c.args.text.now values (rw map-id c.requires)) (λ a r f called. search rules))
