use borrow.Enum.Total.{values_d}
use Rattle.std.proofs.Common.{refl, subst}
use Rattle.unl_upstream.specs.contracts.reopening.ReopenFault as faults
use Rattle.unl_upstream.specs.declared.reopening.ReopenFault.{ReopenFault}
use Rattle.unl_upstream.specs.Kept.{kept_state}
use Rattle.unl_upstream.specs.Ends.{row_line}
use Rattle.unl_input.specs.Refusal.{WritesLine}
use Rattle.unl_upstream.proofs.AfterLines.{bad_row, no_row_there}
use Rattle.unl_upstream.proofs.running.run_reopened.Goals as goal

pub returns-in-Err-BadRow-clause-ends : goal.returns-in-Err-BadRow-clause-ends
returns-in-Err-BadRow-clause-ends g c =
    let place = c.in-Err-BadRow.place in
    let text = c.in-Err-BadRow.field-0-1 in (
      place,
      bad_row
          (kept_state c.args.up (g.K.Keeper.state c.args.keeper))
          (kept_state c.reopen.new.up (g.K.Keeper.state c.reopen.new.keeper))
          place text c.in-Err-BadRow.field-0 c.in-Err-BadRow.field-0-is c.in-Err-BadRow.ensures.keeper c.in-Err-BadRow.ensures.reopens,
      subst (λ (f : ReopenFault). WritesLine c.say_row.result (row_line (values_d faults.enum 0 (place, (text, tt {0})) f).0)
          (g.O.Sink.sent c.args.output.now) (g.O.Sink.sent c.say_row.new.output)) c.in-Err-BadRow.field-0-is c.say_row.ensures.said,
      refl,
    )

pub returns-in-Err-NoRow-clause-ends : goal.returns-in-Err-NoRow-clause-ends
returns-in-Err-NoRow-clause-ends g c =
    let place = c.in-Err-NoRow.place in (
      place,
      no_row_there
          (kept_state c.args.up (g.K.Keeper.state c.args.keeper))
          (kept_state c.reopen.new.up (g.K.Keeper.state c.reopen.new.keeper))
          place c.in-Err-NoRow.field-0 c.in-Err-NoRow.field-0-is c.in-Err-NoRow.ensures.keeper c.in-Err-NoRow.ensures.reopens,
      subst (λ (f : ReopenFault). WritesLine c.say_row-in-Err-NoRow.result (row_line (values_d faults.enum 1 (place, tt {0}) f).0)
          (g.O.Sink.sent c.args.output.now) (g.O.Sink.sent c.say_row-in-Err-NoRow.new.output)) c.in-Err-NoRow.field-0-is
          c.say_row-in-Err-NoRow.ensures.said,
      refl,
    )
