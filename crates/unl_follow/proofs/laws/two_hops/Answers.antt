use Rattle.unl_follow.proofs.Keeping.{state_where}
use Rattle.unl_follow.proofs.laws.two_hops.Goals as goal

pub returns-clause-state : goal.returns-clause-state
returns-clause-state c line sees projects batches answers is_line sent answered =
    state_where line _ _ (c.two_hops.ensures.represents line sees projects batches answers is_line sent answered)
