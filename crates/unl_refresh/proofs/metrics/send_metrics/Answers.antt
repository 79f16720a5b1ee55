use Rattle.unl_refresh.proofs.NextReply.{outcome_by_reply}
use Rattle.unl_refresh.proofs.metrics.send_metrics.Goals as goal

pub returns-clause-next_reply : goal.returns-clause-next_reply
returns-clause-next_reply g c list reading known is =
    let leaves = c.send.ensures.leaves in outcome_by_reply _ _ _ list reading leaves.sends known is
