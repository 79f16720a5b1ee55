use Rattle.unl_refresh.proofs.NextReply.{installed_by_reply, takes_one}
use Rattle.unl_refresh.proofs.tokens.refresh_tokens.Goals as goal

pub returns-clause-next_reply : goal.returns-clause-next_reply
returns-clause-next_reply g c list reading known is =
    let leaves = c.refresh.ensures.leaves in installed_by_reply _ _ _ _ _ list reading leaves.takes known is

pub returns-clause-one_reply : goal.returns-clause-one_reply
returns-clause-one_reply g c calm found =
    let leaves = c.refresh.ensures.leaves in
    let causes = c.refresh.ensures.causes in
    takes_one _ _ _ _ _ _ _ leaves.asks causes.cause calm found
