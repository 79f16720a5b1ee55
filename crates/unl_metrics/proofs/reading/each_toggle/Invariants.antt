use Rattle.std.proofs.Common.{◌≡◌, ◌+◌, ◌≤◌, length}
use Rattle.std.specs.Prelude.{All}
use Rattle.serde_json.specs.View.{members_view}
use Rattle.unl_metrics.specs.Readable.{IsReadable}
use Rattle.unl_metrics.specs.Reports.{each_member, toggle_of}
use Rattle.unl_metrics.proofs.Members.{with_prefix}
use Rattle.unl_metrics.proofs.reading.each_toggle.Given as goal

abbrev pub invariant-loop-feature : goal.invariant-loop-feature
invariant-loop-feature l = record {
  so_far : with_prefix l.entries (each_member (toggle_of l.app l.hour l.field) (members_view l.feature-iterator)) ≡ each_member (toggle_of l.app l.hour l.field) (members_view l.members.entries);
  valid : All IsReadable l.entries;
  len : length l.entries + length l.feature-iterator ≤ length l.members.entries;
}
