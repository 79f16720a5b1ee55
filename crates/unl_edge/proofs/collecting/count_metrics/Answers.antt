use Rattle.std.proofs.Common.{◌≡◌, ◌∙◌, ◌++◌, List, ap, arith, length, refl, rules, subst, sym}
use Rattle.std.specs.Prelude.{All, flat_map}
use Rattle.std.proofs.lemmas.List.Elements.{All-head, All-tail}
use Rattle.unl_edge.specs.WorkerBooks.{HandsTo, handed_at}
use Rattle.unl_edge.specs.declared.link_handler.EdgeLinkHandler.{EdgeLinkHandler}
use Rattle.unl_edge.proofs.MetricsPassed.{counted_all, handed_more, more_parts}
use Rattle.unl_metrics.specs.Book.{Book}
use Rattle.unl_refresh.specs.Handovers.{SameBooks}
use Rattle.unl_refresh.specs.MetricsQueues.{Receiving}
use Rattle.unl_workers.specs.declared.worker.WorkerSlot.{WorkerSlot}
use Rattle.unl_edge.proofs.collecting.count_metrics.Goals as goal

pub loop-pool_slot-init : goal.loop-pool_slot-init
loop-pool_slot-init g c =
    let all = c.into_iter-pool_slot-iterator.ensures.into_iter_gives.0 in
    record {
      kept = refl;
      parts = refl;
      handed = ap (λ (list : List Book). list ++ flat_map handed_at c.into_iter-pool_slot-iterator.result.rest.items) c.requires.handed;
      queue = subst (λ (list : List (WorkerSlot (EdgeLinkHandler g.row.W.Denot) g.row.R.Denot)). All (HandsTo c.args.receiver) list) (sym all)
          c.requires.queue;
    }

pub take_sender_back-requires : goal.take_sender_back-requires
take_sender_back-requires g c =
    let all = subst (λ (list : List (WorkerSlot (EdgeLinkHandler g.row.W.Denot) g.row.R.Denot)). All (HandsTo c.args.receiver) list)
    c.in-Some.ensures.steps.0 c.loop-pool_slot.invariant.queue in
    let fact : HandsTo c.loop-pool_slot.receiver c.in-Some.pool_slot =
    All-head (HandsTo c.args.receiver) c.in-Some.pool_slot _ all ∙ sym (ap (λ (r : Receiving). r.queue) c.loop-pool_slot.invariant.kept) in
    search rules

pub loop-pool_slot-preserved : goal.loop-pool_slot-preserved
loop-pool_slot-preserved g c =
    let so_far = c.loop-pool_slot.invariant in
    let shorter = ap length c.in-Some.ensures.steps.0 in
    let more = ap (λ (r : Receiving). r.parts) c.take_sender_back.ensures in
    let all = subst (λ (list : List (WorkerSlot (EdgeLinkHandler g.row.W.Denot) g.row.R.Denot)). All (HandsTo c.args.receiver) list)
    c.in-Some.ensures.steps.0 so_far.queue in
    record {
      kept = more_parts c.args.receiver c.loop-pool_slot.receiver _ _ _ so_far.kept c.take_sender_back.ensures;
      parts = omega (arith, so_far.parts, shorter, more);
      handed = handed_more _ _ c.in-Some.pool_slot _ _ _ so_far.handed c.in-Some.ensures.steps.0
          (ap (λ (r : Receiving). r.handed) c.take_sender_back.ensures);
      queue = All-tail (HandsTo c.args.receiver) c.in-Some.pool_slot _ all;
    }

pub all_counted-requires : goal.all_counted-requires
all_counted-requires g c =
    let none : length c.loop-pool_slot.pool_slot-iterator.rest.items ≡ 0 = search rules in
    let all = ap length c.into_iter-pool_slot-iterator.ensures.into_iter_gives.0 in
    omega (arith, c.loop-pool_slot.invariant.parts, none, all, c.requires.parts)

pub returns : goal.returns
returns g c =
    let none : length c.loop-pool_slot.pool_slot-iterator.rest.items ≡ 0 = search rules in
    subst (λ (list : List (WorkerSlot (EdgeLinkHandler g.row.W.Denot) g.row.R.Denot)).
    (waiting : List Book) × SameBooks (flat_map handed_at list) (c.args.receiver.intake.taken ++ waiting))
    c.into_iter-pool_slot-iterator.ensures.into_iter_gives.0
    (counted_all c.args.receiver c.loop-pool_slot.receiver c.loop-pool_slot.pool_slot-iterator.rest.items
    c.into_iter-pool_slot-iterator.result.rest.items c.loop-pool_slot.invariant.kept c.loop-pool_slot.invariant.handed none
    c.all_counted.ensures)
