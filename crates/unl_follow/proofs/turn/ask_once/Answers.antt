use Rattle.std.proofs.Common.{Err, ap}
use Rattle.unl_follow.proofs.Asking.{parted, replied}
use Rattle.unl_follow.proofs.turn.ask_once.Goals as goal

pub returns-in-Ok-clause-asks : goal.returns-in-Ok-clause-asks
returns-in-Ok-clause-asks g c =
    let leaves = c.in-Ok.ensures.leaves in
    let causes = c.in-Ok.ensures.causes in
    replied c.args.ask.now c.args.replica.now c.follow_once.new.replica c.follow_once.new.ask.tag c.in-Ok.outcome
    (g.P.Peer.state c.args.peer.now) (g.P.Peer.state c.follow_once.new.peer) _ _
    leaves.takes leaves.asks causes.still

pub returns-in-Err-PeerFault-clause-asks : goal.returns-in-Err-PeerFault-clause-asks
returns-in-Err-PeerFault-clause-asks g c =
    let leaves = c.in-Err-PeerFault.ensures.leaves in
    let causes = c.in-Err-PeerFault.ensures.causes in
    parted c.args.ask.now c.args.replica.now c.follow_once.new.replica c.follow_once.new.ask.tag
    (g.P.Peer.state c.args.peer.now) (g.P.Peer.state c.follow_once.new.peer) _ _
    c.in-Err-PeerFault.ensures.fault leaves.no_tag leaves.once
    (causes.cause (ap Err c.in-Err-PeerFault.field-0-is))
