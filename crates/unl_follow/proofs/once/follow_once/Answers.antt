use Rattle.unl_follow.proofs.Keeping.{fault_keeps, front_rises}
use Rattle.unl_follow.proofs.once.follow_once.Goals as goal

pub returns-clause-delivery : goal.returns-clause-delivery
returns-clause-delivery g c line sees is_line represents brings = c.refresh_once.ensures.delivery line sees is_line represents brings

pub returns-clause-next_front : goal.returns-clause-next_front
returns-clause-next_front g c =
    let leaves = c.refresh_once.ensures.leaves in front_rises _ _ _ _ _ _ leaves.takes leaves.fault

pub returns-clause-fault : goal.returns-clause-fault
returns-clause-fault g c =
    let leaves = c.refresh_once.ensures.leaves in
    fault_keeps c.refresh_once.result c.args.replica.now c.refresh_once.new.to leaves.fault
