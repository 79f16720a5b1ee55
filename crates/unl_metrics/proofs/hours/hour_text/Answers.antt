use Rattle.std.proofs.Common.{◌≡◌, ◌/◌, ◌%◌, ◌∙◌, pos, arith, rules, w8, to_z}
use Rattle.std.proofs.lemmas.Int.{to_z_pos}
use Rattle.jiff.specs.Words.{epoch_day}
use Rattle.unl_metrics.proofs.Calendar.{hour_is}
use Rattle.unl_metrics.proofs.hours.hour_text.Goals as goal

pub returns : goal.returns
returns c =
    let day : epoch_day c.at-time.result.date ≡ pos (c.args.hour / 24) = search rules in
    let same : to_z w8 (c.args.hour % 24) ≡ pos (c.args.hour % 24) = to_z_pos w8 (c.args.hour % 24) (omega arith) in
    c.from.ensures ∙ c.in_ok-format.ensures.ok ∙ hour_is c.at-time.result c.args.hour c.requires day (rw same at c.at-time.ensures.time)
