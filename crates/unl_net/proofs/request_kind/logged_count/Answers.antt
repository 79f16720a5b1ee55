-- At the end of the loop all bytes are logged.
use Rattle.std.proofs.Common.{rules}
use Rattle.unl_net.proofs.LoggedText.{none_left}
use Rattle.unl_net.proofs.request_kind.logged_count.Goals as goal

pub returns : goal.returns
returns c = none_left c.args.prefix.now c.loop-at.at (search rules) (search rules) (c.loop-at.invariant.0)
