use Rattle.std.proofs.Common.{arith}
use Rattle.unl_load.proofs.Users.{same_context}
use Rattle.unl_load.proofs.asking.context.Goals as goal

pub returns-in-Ok : goal.returns-in-Ok
returns-in-Ok c =
    same_context c.args.user _ _ _ c.in-Ok.context (omega (arith, c.ranges)) c.in_ok-value.ensures c.as_str.ensures.value c.in_ok-number.ensures c.in-Ok.ensures.reads
