-- The type of a pass (the right of one thread to use the metrics queue), to state that it can be sent to another thread.
use denote.RattleType.{RattleType}
use Rattle.atomic_table.specs.contracts.shared.Seat as Seat
use Rattle.crossbeam_queue.specs.contracts.array_queue.Doing as Doing
use Rattle.std.specs.contracts.option.Option as Option
use Rattle.unl_metrics.specs.contracts.book.MetricsBook as MetricsBook
use Rattle.unl_refresh.specs.contracts.handover.Handover as Handover

-- The type of `MetricsPass`: the right of one thread to use the table (a seat of the `atomic_table` crate) in which the queue keeps its
-- metrics books. In contracts the table also has the books that each pass has put and taken.
abbrev pub pass_type : RattleType
pass_type = Seat.the_row (Option.the_row MetricsBook.the_row) (Doing.the_row MetricsBook.the_row Handover.the_row)
