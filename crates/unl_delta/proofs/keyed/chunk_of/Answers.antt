use Rattle.std.proofs.Common.{rules}
use Rattle.std.proofs.lemmas.List.Sorted.{IsPartitionPoint-from_clause}
use Rattle.unl_delta.specs.Keyed.{ends_before}
use Rattle.unl_delta.proofs.InPlace.{point_is}
use Rattle.unl_delta.proofs.Chunks.{chunks_partitioned}
use Rattle.unl_delta.proofs.keyed.chunk_of.Goals as goal

pub returns : goal.returns
returns g c =
    let chunks = c.args.chunks.now in
    let key = g.T.Keyed.key in
    let k = g.T.Key.Key.ranks c.args.key.now in
    let parted = chunks_partitioned key k chunks c.requires.full c.requires.rising in
    point_is (ends_before key k) chunks c.partition_point.result c.partition_point.ensures.bound
    (IsPartitionPoint-from_clause (ends_before key k) chunks c.partition_point.result c.partition_point.ensures.partitioned parted (λ a r f called. search rules))
