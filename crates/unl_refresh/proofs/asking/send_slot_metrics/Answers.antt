use Rattle.std.proofs.Common.{ap}
use Rattle.unl_refresh.specs.Exchange.{peer_view}
use Rattle.unl_refresh.specs.SlotParameters.{parameters_of}
use Rattle.unl_refresh.proofs.Connecting.{report_at_most_once}
use Rattle.unl_refresh.proofs.TurnsTaken.{metrics_sent}
use Rattle.unl_refresh.proofs.asking.send_slot_metrics.Goals as goal

pub returns-clause-connects : goal.returns-clause-connects
returns-clause-connects g c =
    let leaves = c.send_metrics-sent.ensures.leaves in
    let causes = c.send_metrics-sent.ensures.causes in
    report_at_most_once _ _ _ _ _ _ _ _ _ leaves.once causes.later

pub returns-clause-sends : goal.returns-clause-sends
returns-clause-sends g c installed tags =
    metrics_sent (parameters_of c.args.slot_poller.now) _ _ _ installed tags _ _ _ _ c.send_metrics-sent.result c.unless_memory.result
    c.as_str-environment.ensures c.as_str-host.ensures c.as_str-token.ensures c.unless_memory.ensures.ok c.unless_memory.ensures.err
    c.send_metrics-sent.ensures.leaves c.send_metrics-sent.ensures.causes
    (λ none. ap (λ p. peer_view (g.P.Peer.state p) (g.P.Source.faults p)) (c.send_metrics-sent.ensures.silent none))
