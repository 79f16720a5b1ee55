use Rattle.std.proofs.Common.{◌≡◌, true, false, refl, rules}
use Rattle.unl_metrics.specs.Book.{book_sum, fits}
use Rattle.unl_metrics.proofs.book.MetricsBook.add.Goals as goal

pub returns-then-not-fits-clause-refused : goal.returns-then-not-fits-clause-refused
returns-then-not-fits-clause-refused c = λ _.
    let sum : c.in_ok-rows.rows.items ≡ book_sum c.args.self.now c.args.environment.now c.args.report.now = unfold book_sum in search rules in
    let large : fits c.in_ok-rows.rows.items ≡ false = search rules in
    rw (← sum, large) refl

pub returns-clause-added : goal.returns-clause-added
returns-clause-added c =
    let sum : c.in_ok-rows.rows.items ≡ book_sum c.args.self.now c.args.environment.now c.args.report.now = unfold book_sum in search rules in
    let small : fits c.in_ok-rows.rows.items ≡ true = search rules in
    rw (← sum, small) refl
