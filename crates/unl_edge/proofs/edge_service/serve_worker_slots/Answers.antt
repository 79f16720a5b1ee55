use Rattle.std.proofs.Common.{rules}
use denote.Param.Send.{sendable}
use Rattle.std.proofs.Crossing.{crosses}
use Rattle.unl_refresh.proofs.Connecting.{connects_nothing}
use Rattle.unl_refresh.specs.Connects.{Connects}
use Rattle.unl_refresh.specs.Exchange.{peer_view}
use Rattle.unl_refresh.specs.Turns.{poll_state}
use Rattle.unl_edge.proofs.Polling.{polls_on}
use Rattle.unl_edge.proofs.Sent.{handler_send}
use Rattle.unl_edge.specs.Polling.{KeepsReceiver, PollsOn, refreshing}
use Rattle.unl_edge_state.specs.Writing.{installed_by}
use Rattle.unl_edge.proofs.edge_service.serve_worker_slots.Goals as goal

pub run_pool-requires-send-S : goal.run_pool-requires-send-S
run_pool-requires-send-S g c κs within =
    let desk = c.worker_parts_are_send.ensures.desk in
    let book = c.worker_parts_are_send.ensures.book in
    let notes = c.worker_parts_are_send.ensures.notes in
    let sender = c.worker_parts_are_send.ensures.sender in
    search (handler_send, sendable, crosses) depth 20

-- after its turns, the task still holds the references that it was given
pub returns-in-Ok-clause-connects : goal.returns-in-Ok-clause-connects
returns-in-Ok-clause-connects g c =
    let after = c.run_pool.new.turn in
    let same = c.in-Ok.ensures.turns.keeps.2 in
    let fact : Connects 0 (g.P.Peer.state c.args.peer.now).replies (g.P.Source.faults c.args.peer.now)
    (g.P.Peer.state after.peer.now).replies (g.P.Source.faults after.peer.now) = c.in-Ok.ensures.turns.keeps.3 _ _ (connects_nothing _ _) in
    search rules

-- so each turn of the task is a turn of this poller, with this writer, peer and receiver
pub returns-in-Ok-clause-polls : goal.returns-in-Ok-clause-polls
returns-in-Ok-clause-polls g c =
    let after = c.run_pool.new.turn in
    let same_poller = c.in-Ok.ensures.turns.keeps.0 in
    let same_writer = c.in-Ok.ensures.turns.keeps.1 in
    let same_peer = c.in-Ok.ensures.turns.keeps.2 in
    let same_receiver = c.in-Ok.ensures.turns.keeps.4 in
    let fact : PollsOn c.args.poller.now
    (refreshing (poll_state (installed_by c.args.writer.now) c.args.poller.now.tags c.args.poller.now.metrics
    (peer_view (g.P.Peer.state c.args.peer.now) (g.P.Source.faults c.args.peer.now))) c.args.receiver.now.intake)
    (refreshing (poll_state (installed_by after.writer.now) after.poller.now.tags after.poller.now.metrics
    (peer_view (g.P.Peer.state after.peer.now) (g.P.Source.faults after.peer.now))) after.receiver.now.intake) =
    polls_on after _ _ _ _ _ _ c.in-Ok.ensures.turns
    (λ t. refreshing (poll_state (installed_by t.writer.now) t.poller.now.tags t.poller.now.metrics
    (peer_view (g.P.Peer.state t.peer.now) (g.P.Source.faults t.peer.now))) t.receiver.now.intake)
    (λ t. t.poller.now) (λ x y turned. turned) in
    search rules

-- at most the intake of the receiver changed
pub returns-in-Ok-clause-receiver : goal.returns-in-Ok-clause-receiver
returns-in-Ok-clause-receiver g c =
    let after = c.run_pool.new.turn in
    let same_receiver = c.in-Ok.ensures.turns.keeps.4 in
    let fact : KeepsReceiver c.args.receiver.now after.receiver.now = c.in-Ok.ensures.turns.keeps.5 in
    search rules
