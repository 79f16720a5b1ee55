use Rattle.unl_refresh.proofs.Receiving.{IsRead-from_enough}
use Rattle.unl_refresh.proofs.exchange.read_reply.Goals as goal

pub returns-in-Ok-clause-read : goal.returns-in-Ok-clause-read
returns-in-Ok-clause-read g c = IsRead-from_enough _ _ _ c.in_ok-receive.ensures.held c.in-Ok.ensures.read
