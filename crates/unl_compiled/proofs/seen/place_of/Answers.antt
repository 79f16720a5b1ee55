use Rattle.std.proofs.Common.{rules}
use Rattle.std.proofs.lemmas.List.Sorted.{IsPartitionPoint-from_clause}
use Rattle.unl_constraints.proofs.Searching.{is_below, partitioned, prefix_is}
use Rattle.unl_documents.specs.States.{name_key}
use Rattle.unl_compiled.proofs.seen.place_of.Goals as goal

pub returns : goal.returns
returns c =
    let features = c.args.features.now in
    let below = is_below name_key c.args.name.now in
    prefix_is below features c.partition_point.result c.partition_point.ensures.bound (IsPartitionPoint-from_clause below features c.partition_point.result c.partition_point.ensures.partitioned (partitioned name_key c.args.name.now features c.requires) (λ a r f called. search rules))
