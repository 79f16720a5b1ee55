use Rattle.unl_refresh.proofs.Receiving.{causes_on}
use Rattle.unl_refresh.proofs.exchange.receive.Goals as goal

pub returns-in-Err-clause-causes : goal.returns-in-Err-clause-causes
returns-in-Err-clause-causes g c = causes_on c.in-Err.fault _ _ _ c.loop-room.invariant.still c.in-Err.ensures.causes
