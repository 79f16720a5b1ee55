use Rattle.std.proofs.Common.{rules}
use Rattle.std.proofs.lemmas.List.Sorted.{IsPartitionPoint-from_clause}
use Rattle.unl_delta.specs.Keyed.{ends_before}
use Rattle.unl_delta.proofs.InPlace.{point_is}
use Rattle.unl_delta.proofs.Chunks.{chunks_partitioned}
use Rattle.unl_documents.specs.States.{name_key}
use Rattle.unl_compiled.proofs.seen.chunk_of.Goals as goal

pub returns : goal.returns
returns c =
    let chunks = c.args.chunks.now in
    let name = c.args.name.now in
    let parted = chunks_partitioned name_key name chunks c.requires.full c.requires.rising in
    point_is (ends_before name_key name) chunks c.partition_point.result c.partition_point.ensures.bound
    (IsPartitionPoint-from_clause (ends_before name_key name) chunks c.partition_point.result c.partition_point.ensures.partitioned parted (λ a r f called. search rules))
