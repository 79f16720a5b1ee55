use Rattle.std.proofs.Common.{◌≡◌, ◌∙◌, pos, arith, w64, to_z}
use Rattle.std.proofs.lemmas.Int.{to_z_pos}
use Rattle.jiff.proofs.SpanFacts.{signed_arith, date_add-days, can_add-days}
use Rattle.unl_metrics.proofs.Calendar.{epoch_is_zero}
use Rattle.unl_metrics.proofs.hours.day_after.Goals as goal

pub unwrap-requires : goal.unwrap-requires
unwrap-requires c =
    let zero = epoch_is_zero c.date-epoch.result c.date-epoch.ensures in
    let same : to_z w64 c.args.days ≡ pos c.args.days = to_z_pos w64 c.args.days (omega arith) in
    let only = rw same at c.days.ensures in
    let can = can_add-days c.date-epoch.result (pos c.args.days) c.days.result only in
    c.checked_add.ensures.succeeds.1 (can.1 (rw zero (omega (arith, signed_arith))))

pub returns : goal.returns
returns c =
    let zero = epoch_is_zero c.date-epoch.result c.date-epoch.ensures in
    let same : to_z w64 c.args.days ≡ pos c.args.days = to_z_pos w64 c.args.days (omega arith) in
    let only = rw same at c.days.ensures in
    let added = rw c.unwrap.ensures at c.checked_add.ensures.value in
    added ∙ date_add-days c.date-epoch.result (pos c.args.days) c.days.result only ∙ rw zero (omega (arith, signed_arith))
