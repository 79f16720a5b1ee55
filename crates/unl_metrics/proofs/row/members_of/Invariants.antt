use Rattle.std.proofs.Common.{◌≡◌, map, drop}
use Rattle.serde_json.specs.Data.{no_members}
use Rattle.serde_json.specs.View.{members_view}
use Rattle.unl_metrics.specs.Book.{pair}
use Rattle.unl_metrics.specs.Bulk.{with_counts}
use Rattle.unl_metrics.proofs.row.members_of.Given as goal

abbrev pub invariant-loop-count : goal.invariant-loop-count
invariant-loop-count l = with_counts (map pair (drop l.count-index l.counts)) (members_view l.members.entries) ≡ with_counts (map pair l.counts) no_members
