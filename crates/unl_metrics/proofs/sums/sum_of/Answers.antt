use Rattle.std.proofs.Common.{◌≡◌, sym, subst, refl, rules}
use Rattle.unl_metrics.specs.Book.{with_tally, sum_of, IsCounted}
use Rattle.unl_metrics.proofs.Books.{stays_in_order}
use Rattle.unl_metrics.proofs.Folds.{fold_more, fold_done}
use Rattle.unl_metrics.proofs.sums.sum_of.Goals as goal

pub loop-other-init : goal.loop-other-init
loop-other-init c = rw c.in_ok-all.ensures record { so_far = unfold sum_of in refl; order = c.requires.rows }

pub loop-other-preserved : goal.loop-other-preserved
loop-other-preserved c =
    let l = c.loop-other in
    let others = c.args.others.now in
    let item = c.other-item.result in
    let copy : c.in_ok-copy.field-0 ≡ item = search rules in
    let this : IsCounted item = subst IsCounted (sym c.other-item.is) (c.requires.others l.other-index item c.loop-other-test.true) in
    rw (c.in_ok-add_row.ensures, copy) record {
      so_far = fold_more with_tally l.all.items (with_tally l.all.items item) (sum_of c.args.rows.now others) others l.other-index item c.loop-other-test.true c.other-item.is refl l.invariant.so_far;
      order = stays_in_order l.all.items item l.invariant.order this;
    }

pub returns-clause-sum : goal.returns-clause-sum
returns-clause-sum c = fold_done with_tally c.loop-other.all.items (sum_of c.args.rows.now c.args.others.now) c.args.others.now c.loop-other.other-index c.loop-other-test.false c.loop-other.invariant.so_far
