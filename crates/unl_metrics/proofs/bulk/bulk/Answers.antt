use Rattle.std.proofs.Common.{◌≡◌, ◌<◌, length, take, map, sym, subst, ap, ◌∙◌, arith, rules}
use Rattle.std.proofs.lemmas.Bool.Decides.{nat_tests}
use Rattle.std.specs.Prelude.{All}
use Rattle.serde_json.specs.View.{view, items_of}
use Rattle.unl_metrics.specs.Book.{Book, counted_in, IsCounted}
use Rattle.unl_metrics.specs.Bulk.{bulk_of_items, bulk_data, counted_data, room_for}
use Rattle.unl_metrics.proofs.Sending.{each_in, nothing_sent, something_sent}
use Rattle.unl_metrics.proofs.bulk.bulk.Goals as goal

pub returns-then-is_empty : goal.returns-then-is_empty
returns-then-is_empty c =
    let none : length c.in_ok-rows.rows.items ≡ 0 = grind (arith, nat_tests, c.in_ok-rows.rows.ok.0, c.is_empty.ensures, c.if-is_empty.true) in
    nothing_sent c.args.environment.now c.args.rows.now c.in_ok-rows.rows.items c.in_ok-rows.ensures none

pub fitting_values-requires : goal.fitting_values-requires
fitting_values-requires c =
    let same : c.as_slice.result.now ≡ counted_in c.args.environment.now c.args.rows.now = search rules in
    subst (λ (found : Book). All IsCounted found) (sym same) (each_in c.args.environment.now c.args.rows.now c.requires)

pub returns : goal.returns
returns c =
    let found = c.in_ok-rows.rows.items in
    let some : 0 < length found = grind (arith, nat_tests, c.in_ok-rows.rows.ok.0, c.is_empty.ensures, c.if-is_empty.false) in
    let values : map view c.in_ok-values.values.items ≡ map counted_data (take (room_for found) found) = search rules in
    let written : view c.in_ok-bulk_value.field-0 ≡ bulk_data (take (room_for found) found) = c.in_ok-bulk_value.ensures ∙ ap (λ ds. bulk_of_items (items_of ds)) values in
    let all : c.len-count.result ≡ room_for found = search rules in
    something_sent c.args.environment.now c.args.rows.now found (view c.in_ok-bulk_value.field-0) c.len-count.result c.in_ok-rows.ensures some written all
