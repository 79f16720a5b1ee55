use Rattle.std.proofs.Common.{◌≡◌, ◌+◌, [], ◌∷◌, length, take, get_or, ap, ◌∙◌, arith, rules, refl}
use Rattle.std.proofs.lemmas.List.{take_more, map_push, length_push, map-append}
use Rattle.serde_json.specs.View.{view}
use Rattle.serde_json.specs.Written.{compact_text}
use Rattle.unl_metrics.specs.Bulk.{counted_data}
use Rattle.unl_metrics.proofs.Lengths.{empty_length, longer_is, room_is, within}
use Rattle.unl_metrics.proofs.NoFloats.{no_float}
use Rattle.unl_metrics.proofs.bulk.fitting_values.Goals as goal

pub loop-row-init : goal.loop-row-init
loop-row-init c = rw (c.new-values.ensures.items, empty_length) record { values = refl; count = refl; length = refl; fits = omega arith }

pub length_of-requires : goal.length_of-requires
length_of-requires c = rw c.in_ok-value.ensures (no_float c.get.result.now)

pub returns-then-longer-gt-LONGEST-clause-values : goal.returns-then-longer-gt-LONGEST-clause-values
returns-then-longer-gt-LONGEST-clause-values c =
    let l = c.loop-row in
    let rows = c.args.rows.now in
    let item = c.row-item.result in
    let text : c.in_ok-longer.field-0 ≡ length (compact_text (counted_data item)) = search rules in
    let all : c.len.result ≡ l.row-index = search rules in
    let longer = longer_is rows l.row-index c.in_ok-longer.field-0 l.length c.comma.result c.len.result item c.loop-row-test.true c.row-item.is l.invariant.length text all c.comma.ensures in
    let room = room_is rows l.row-index (omega arith) (rw l.invariant.length at l.invariant.fits) (λ _. rw longer at c.if-longer-gt-LONGEST.true) in
    rw room l.invariant.values

pub returns-then-longer-gt-LONGEST-clause-count : goal.returns-then-longer-gt-LONGEST-clause-count
returns-then-longer-gt-LONGEST-clause-count c =
    let l = c.loop-row in
    let rows = c.args.rows.now in
    let item = c.row-item.result in
    let text : c.in_ok-longer.field-0 ≡ length (compact_text (counted_data item)) = search rules in
    let all : c.len.result ≡ l.row-index = search rules in
    let longer = longer_is rows l.row-index c.in_ok-longer.field-0 l.length c.comma.result c.len.result item c.loop-row-test.true c.row-item.is l.invariant.length text all c.comma.ensures in
    let room = room_is rows l.row-index (omega arith) (rw l.invariant.length at l.invariant.fits) (λ _. rw longer at c.if-longer-gt-LONGEST.true) in
    rw room l.invariant.count

pub loop-row-preserved : goal.loop-row-preserved
loop-row-preserved c =
    let l = c.loop-row in
    let rows = c.args.rows.now in
    let item = c.row-item.result in
    let text : c.in_ok-longer.field-0 ≡ length (compact_text (counted_data item)) = search rules in
    let all : c.len.result ≡ l.row-index = search rules in
    let longer = longer_is rows l.row-index c.in_ok-longer.field-0 l.length c.comma.result c.len.result item c.loop-row-test.true c.row-item.is l.invariant.length text all c.comma.ensures in
    let shown : view c.in_ok-value.value ≡ counted_data (get_or rows l.row-index item) = search rules in
    let prefix = take_more rows l.row-index item c.loop-row-test.true in
    rw c.in_ok-push.ensures.items record {
      values = rw (map_push view l.values.items c.in_ok-value.value, prefix, map-append counted_data (take l.row-index rows) (get_or rows l.row-index item ∷ []), l.invariant.values, shown) refl;
      count = length_push l.values.items c.in_ok-value.value ∙ ap (λ n. n + 1) l.invariant.count;
      length = longer;
      fits = omega (arith, c.if-longer-gt-LONGEST.false);
    }

pub returns-clause-values : goal.returns-clause-values
returns-clause-values c =
    let l = c.loop-row in
    let rows = c.args.rows.now in
    let inside = within view counted_data l.values.items rows l.row-index l.row-index l.invariant.values l.invariant.count in
    let room = room_is rows l.row-index inside (rw l.invariant.length at l.invariant.fits) (λ lt. absurd (omega (arith, lt, c.loop-row-test.false))) in
    rw room l.invariant.values

pub returns-clause-count : goal.returns-clause-count
returns-clause-count c =
    let l = c.loop-row in
    let rows = c.args.rows.now in
    let inside = within view counted_data l.values.items rows l.row-index l.row-index l.invariant.values l.invariant.count in
    let room = room_is rows l.row-index inside (rw l.invariant.length at l.invariant.fits) (λ lt. absurd (omega (arith, lt, c.loop-row-test.false))) in
    rw room l.invariant.count
