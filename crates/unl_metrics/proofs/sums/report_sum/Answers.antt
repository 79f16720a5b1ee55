use Rattle.std.proofs.Common.{◌≡◌, sym, subst, refl, map, rules}
use Rattle.unl_metrics.specs.Book.{counted, with_tally, sum_of}
use Rattle.unl_metrics.specs.Reports.{IsEntry}
use Rattle.unl_metrics.proofs.Books.{stays_in_order, entry_counted}
use Rattle.unl_metrics.proofs.Folds.{map_more, map_done}
use Rattle.unl_metrics.proofs.sums.report_sum.Goals as goal

pub loop-entry-init : goal.loop-entry-init
loop-entry-init c = rw c.in_ok-all.ensures record { so_far = unfold sum_of in refl; order = c.requires.rows }

pub loop-entry-preserved : goal.loop-entry-preserved
loop-entry-preserved c =
    let l = c.loop-entry in
    let environment = c.args.environment.now in
    let entries = c.args.entries.now in
    let item = c.entry-item.result in
    let row : c.in_ok-row.row ≡ counted environment item = search rules in
    let this : IsEntry item = subst IsEntry (sym c.entry-item.is) (c.requires.entries l.entry-index item c.loop-entry-test.true) in
    rw (c.in_ok-add_row.ensures, row) record {
      so_far = map_more with_tally (counted environment) l.all.items (with_tally l.all.items (counted environment item)) (sum_of c.args.rows.now (map (counted environment) entries)) entries l.entry-index item c.loop-entry-test.true c.entry-item.is refl l.invariant.so_far;
      order = stays_in_order l.all.items (counted environment item) l.invariant.order (entry_counted environment item this);
    }

pub returns-clause-sum : goal.returns-clause-sum
returns-clause-sum c = map_done with_tally (counted c.args.environment.now) c.loop-entry.all.items (sum_of c.args.rows.now (map (counted c.args.environment.now) c.args.entries.now)) c.args.entries.now c.loop-entry.entry-index c.loop-entry-test.false c.loop-entry.invariant.so_far
