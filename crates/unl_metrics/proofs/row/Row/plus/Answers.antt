use Rattle.unl_metrics.proofs.Books.{plus_is}
use Rattle.unl_metrics.proofs.row.Row.plus.Goals as goal

pub returns : goal.returns
returns c = plus_is c.self.inside.environment c.other.inside.environment c.in_ok-copy.field-0 c.self.inside.entry c.other.inside.entry c.in_ok-entry_sum.field-0 c.args.self.now c.args.other.now c.in_ok-copy.ensures c.in_ok-entry_sum.ensures.key c.in_ok-entry_sum.ensures.tally c.self.view_is c.other.view_is
