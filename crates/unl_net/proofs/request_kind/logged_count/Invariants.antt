-- The bytes so far may be logged, and it is known whether there is a space among them.
use Rattle.std.proofs.Common.{◌≡◌, nat_lt, take, true}
use Rattle.unl_net.specs.LoggedText.{may_be_logged, spaces_in}
use Rattle.unl_net.proofs.request_kind.logged_count.Given as goal

abbrev pub invariant-loop-at : goal.invariant-loop-at
invariant-loop-at l = (may_be_logged (take l.at l.prefix) ≡ true) × (l.has_method ≡ nat_lt 0 (spaces_in (take l.at l.prefix)))
