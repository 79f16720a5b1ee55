use Rattle.std.proofs.Common.{◌∙◌, ap, arith}
use Rattle.unl_edge.proofs.MetricsPassed.{hand_to, parts_back, work_during_turns}
use Rattle.unl_edge.proofs.Working.{accepted_so, caused_so, polls_through}
use Rattle.unl_refresh.specs.MetricsQueues.{Receiving}
use Rattle.unl_edge.proofs.edge_service.serve_after.Goals as goal

-- the senders have all parts that the receiver doesn't have
pub accepted_in-requires-clause-parts : goal.accepted_in-requires-clause-parts
accepted_in-requires-clause-parts g c =
    parts_back _ c.worker_slots_of.new.receiver c.serve_worker_slots-served.new.receiver _ c.serve_worker_slots-served.result
    (omega (arith, c.in-Ok.ensures.parts, ap (λ (r : Receiving). r.parts) c.requires.receiver))
    c.serve_worker_slots-served.ensures.receiver c.serve_worker_slots-served.ensures.slots

pub accepted_in-requires-clause-queue : goal.accepted_in-requires-clause-queue
accepted_in-requires-clause-queue g c =
    hand_to _ c.args.receiver c.worker_slots_of.new.receiver c.serve_worker_slots-served.new.receiver _
    c.serve_worker_slots-served.result (ap (λ (r : Receiving). r.queue) c.in-Ok.ensures.same_receiver) c.in-Ok.ensures.books
    c.serve_worker_slots-served.ensures.receiver c.serve_worker_slots-served.ensures.slots

pub returns-in-Ok-clause-accepts : goal.returns-in-Ok-clause-accepts
returns-in-Ok-clause-accepts g c =
    accepted_so c.serve_worker_slots-served.result c.accepted_in.result _ _ c.accepted_in.ensures.accepted
    c.serve_worker_slots-served.ensures.accepts

-- the turns took the workers' books through this receiver, which had taken none before
pub returns-in-Ok-clause-each_link_served_once : goal.returns-in-Ok-clause-each_link_served_once
returns-in-Ok-clause-each_link_served_once g c =
    let polls = polls_through c.serve_worker_slots-served.result _ _ _ _ _ _ _ _ _ c.serve_worker_slots-served.ensures.polls
    c.in-Ok.ensures.same
    (ap (λ (r : Receiving). r.intake) c.in-Ok.ensures.same_receiver ∙ ap (λ (r : Receiving). r.intake) c.requires.receiver) in
    work_during_turns _ _ _ _ _ _ c.args.writer.now.known _ _ c.args.receiver _ _ _ _ c.serve_worker_slots-served.result
    c.accepted_in.result c.accepted_in.ensures.accepted c.in-Ok.ensures.count c.in-Ok.ensures.learned c.in-Ok.ensures.books
    c.serve_worker_slots-served.ensures.slots c.serve_worker_slots-served.ensures.each_link_served_once polls
    c.accepted_in.ensures.counted

pub returns-in-Ok-clause-causes : goal.returns-in-Ok-clause-causes
returns-in-Ok-clause-causes g c =
    caused_so c.serve_worker_slots-served.result c.accepted_in.result _ _ _ _ c.accepted_in.ensures.accepted
    c.serve_worker_slots-served.ensures.causes
