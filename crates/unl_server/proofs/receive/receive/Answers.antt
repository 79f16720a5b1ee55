use Rattle.unl_server.proofs.ReceiveLemmas.{Taking_found}
use Rattle.unl_server.proofs.receive.receive.Goals as goal

pub returns-in-Some-clause-found : goal.returns-in-Some-clause-found
returns-in-Some-clause-found g c =
    Taking_found _ _ _ _ _ _ _ c.loop-received.invariant.taking c.in-Some.ensures.turn
