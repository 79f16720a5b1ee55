use Rattle.std.proofs.Common.{rules}
use Rattle.std.proofs.lemmas.List.Sorted.{IsPartitionPoint-from_clause}
use Rattle.unl_delta.specs.Keyed.{is_before}
use Rattle.unl_delta.proofs.InPlace.{partitioned, point_is}
use Rattle.unl_delta.proofs.Order.{rises_from_rising}
use Rattle.unl_delta.proofs.keyed.place_of.Goals as goal

pub returns-clause-place : goal.returns-clause-place
returns-clause-place g c =
    let items = c.args.items.now in
    let key = g.T.Keyed.key in
    let k = g.T.Key.Key.ranks c.args.key.now in
    let parted = partitioned key k items (rises_from_rising key items c.requires) in
    point_is (λ x. is_before (key x) k) items c.partition_point.result c.partition_point.ensures.bound
    (IsPartitionPoint-from_clause (λ x. is_before (key x) k) items c.partition_point.result c.partition_point.ensures.partitioned parted (λ a r f called. search rules))
