use Rattle.std.proofs.Common.{◌≡◌, ◌≤◌, take, map, length}
use Rattle.serde_json.specs.View.{view}
use Rattle.unl_metrics.specs.Bulk.{counted_data, bulk_length}
use Rattle.unl_metrics.proofs.bulk.fitting_values.Given as goal

abbrev pub invariant-loop-row : goal.invariant-loop-row
invariant-loop-row l = record {
  values : map view l.values.items ≡ map counted_data (take l.row-index l.rows);
  count : length l.values.items ≡ l.row-index;
  length : l.length ≡ bulk_length (take l.row-index l.rows);
  fits : l.length ≤ 1048576;
}
