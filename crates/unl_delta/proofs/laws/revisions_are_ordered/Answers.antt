use Rattle.unl_delta.proofs.Revisions.{not_older, up_to_is, up_to_itself, up_to_both, up_to_same}
use Rattle.unl_delta.proofs.laws.revisions_are_ordered.Goals as goal

pub returns-clause-older : goal.returns-clause-older
returns-clause-older c these those = (λ h. not_older these those h, λ h. up_to_is these those h)

pub returns-clause-itself : goal.returns-clause-itself
returns-clause-itself c now = up_to_itself now

pub returns-clause-both : goal.returns-clause-both
returns-clause-both c one two three h k = up_to_both one two three h k

pub returns-clause-same : goal.returns-clause-same
returns-clause-same c these those h k = up_to_same these those h k
