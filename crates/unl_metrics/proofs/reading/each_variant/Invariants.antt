use Rattle.std.proofs.Common.{◌≡◌, ◌++◌, ◌+◌, ◌≤◌, length}
use Rattle.std.specs.Prelude.{All}
use Rattle.serde_json.specs.View.{members_view}
use Rattle.unl_documents.specs.Parameters.{AreRising}
use Rattle.unl_metrics.specs.Readable.{HasValidName}
use Rattle.unl_metrics.specs.Reports.{each_member, variant_count}
use Rattle.unl_metrics.proofs.Members.{with_prefix, variant_names, names_of}
use Rattle.unl_metrics.proofs.reading.each_variant.Given as goal

abbrev pub invariant-loop-name : goal.invariant-loop-name
invariant-loop-name l = record {
  so_far : with_prefix l.variants (each_member (variant_count l.field) (members_view l.name-iterator)) ≡ each_member (variant_count l.field) (members_view l.members.entries);
  rising : AreRising (variant_names l.variants ++ names_of l.name-iterator);
  names : All HasValidName l.variants;
  len : length l.variants + length l.name-iterator ≤ length l.members.entries;
}
