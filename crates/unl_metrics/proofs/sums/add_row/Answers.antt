use Rattle.std.proofs.Common.{◌≡◌, true, false, sym, ◌∙◌, ap, get_or, refl, rules}
use Rattle.std.specs.Prelude.{slice_set}
use Rattle.unl_metrics.specs.Book.{MetricKey, Tally, key_cmp, place, tally_sum}
use Rattle.unl_metrics.proofs.Entries.{is_present, entry_new, entry_old}
use Rattle.unl_metrics.proofs.Order.{keys_total}
use Rattle.unl_metrics.proofs.sums.add_row.Goals as goal

pub returns-then-is_at : goal.returns-then-is_at
returns-then-is_at c =
    let rows = c.args.rows.now.items in
    let row = c.args.row in
    let old = c.index.result.now in
    let here : c.place_of-place.result ≡ place key_cmp row.0 rows = search rules in
    let found : is_present key_cmp row.0 rows ≡ true = rw (← here) (search rules) in
    let is : old ≡ get_or rows c.place_of-place.result old = search rules in
    let whole : c.in_ok-rows.field-0 ≡ (old.0, tally_sum old.1 row.1) = search rules in
    ap (λ (r : MetricKey × Tally). slice_set rows c.place_of-place.result r) whole
    ∙ sym (entry_old key_cmp keys_total tally_sum row rows old found ∙ rw (← here, ← is) refl)

pub returns : goal.returns
returns c =
    let rows = c.args.rows.now.items in
    let row = c.args.row in
    let here : c.place_of-place.result ≡ place key_cmp row.0 rows = search rules in
    let free : is_present key_cmp row.0 rows ≡ false = rw (← here) (search rules) in
    rw c.in_ok-insert.ensures.items (rw here (sym (entry_new key_cmp keys_total tally_sum row rows c.requires.rising free)))
