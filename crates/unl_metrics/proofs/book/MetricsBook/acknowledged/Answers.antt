use Rattle.std.proofs.Common.{◌≡◌, ◌≤◌, ◌<◌, length, drop, ap, ◌∙◌, arith, rules}
use Rattle.std.specs.List.{prefix_len}
use Rattle.unl_metrics.specs.Book.{acknowledge, is_of}
use Rattle.unl_metrics.proofs.Acknowledging.{range_is, book_stays, start_of, range_ends}
use Rattle.unl_metrics.proofs.book.MetricsBook.acknowledged.Goals as goal

pub rows_from-requires : goal.rows_from-requires
rows_from-requires c = search rules

pub overflow_add-end : goal.overflow_add-end
overflow_add-end c =
    let rows = c.self.inside.rows.items in
    let start : c.first_of-start.result ≤ length rows = search rules in
    let run : c.run_of-run.result ≤ length (drop c.first_of-start.result rows) = search rules in
    let end = range_ends rows c.first_of-start.result c.run_of-run.result c.args.count start run in
    let len : length rows < 18446744073709551616 = search rules in
    rw c.min.ensures (omega arith)

pub drop_range-requires-clause-inside : goal.drop_range-requires-clause-inside
drop_range-requires-clause-inside c =
    let rows = c.self.inside.rows.items in
    let start : c.first_of-start.result ≤ length rows = search rules in
    let run : c.run_of-run.result ≤ length (drop c.first_of-start.result rows) = search rules in
    rw c.min.ensures (range_ends rows c.first_of-start.result c.run_of-run.result c.args.count start run)

pub invariant_of-self : goal.invariant_of-self
invariant_of-self c =
    let rows = c.self.inside.rows.items in
    let environment = c.args.environment.now in
    let start : c.first_of-start.result ≡ start_of environment rows = search rules in
    let run : c.run_of-run.result ≡ prefix_len (λ e. is_of environment e.0) (drop c.first_of-start.result rows) = search rules in
    let goes = range_is environment c.args.count rows c.drop_range.new.rows.items c.first_of-start.result c.run_of-run.result c.min.result c.self.invariant.order.rising start run c.min.ensures c.drop_range.ensures in
    rw goes (book_stays environment c.args.count rows c.self.invariant)

pub returns : goal.returns
returns c =
    let rows = c.self.inside.rows.items in
    let environment = c.args.environment.now in
    let start : c.first_of-start.result ≡ start_of environment rows = search rules in
    let run : c.run_of-run.result ≡ prefix_len (λ e. is_of environment e.0) (drop c.first_of-start.result rows) = search rules in
    let goes = range_is environment c.args.count rows c.drop_range.new.rows.items c.first_of-start.result c.run_of-run.result c.min.result c.self.invariant.order.rising start run c.min.ensures c.drop_range.ensures in
    goes ∙ ap (acknowledge environment c.args.count) c.self.view_is
