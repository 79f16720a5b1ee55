use Rattle.std.proofs.Common.{◌∙◌, sym, map, nat_cmp, rules}
use Rattle.std.proofs.lemmas.Cmp.{nat_list_cmp_total}
use Rattle.std.proofs.lemmas.List.Sorted.{IsPartitionPoint-from_clause}
use Rattle.std.specs.Cmp.Lexicographic.{slice_cmp}
use Rattle.std.specs.Ordering.{is_lt}
use Rattle.unl_metrics.specs.Book.{pair}
use Rattle.unl_metrics.proofs.Entries.{partitioned, partitioned_by, prefix_is, prefix_len-map}
use Rattle.unl_metrics.proofs.row.place_of.Goals as goal

pub returns-clause-place : goal.returns-clause-place
returns-clause-place c =
    let counts = c.args.counts.now in
    let name = c.args.name.now in
    let point = IsPartitionPoint-from_clause (λ v. is_lt (slice_cmp nat_cmp v.name name)) counts c.partition_point.result c.partition_point.ensures.partitioned
    (partitioned_by pair (λ e. is_lt (slice_cmp nat_cmp e.0 name)) counts (partitioned (slice_cmp nat_cmp) nat_list_cmp_total name (map pair counts) c.requires)) (λ a r f called. search rules) in
    prefix_is (λ v. is_lt (slice_cmp nat_cmp v.name name)) counts c.partition_point.result c.partition_point.ensures.bound point ∙ sym (prefix_len-map pair (λ e. is_lt (slice_cmp nat_cmp e.0 name)) counts)
