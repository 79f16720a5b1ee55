use Rattle.std.proofs.Common.{◌≡◌, ◌∙◌, ap, arith, length, length-append, rules}
use Rattle.unl_edge_state.specs.Writing.{Writing}
use Rattle.unl_edge.proofs.MetricsPassed.{books_more, less_parts}
use Rattle.unl_edge.proofs.Working.{learned_more, others_new, others_of}
use Rattle.unl_refresh.specs.MetricsQueues.{Receiving}
use Rattle.unl_edge.proofs.worker_slots.worker_slots_of.Goals as goal

pub worker_slot_of-requires-clause-parts : goal.worker_slot_of-requires-clause-parts
worker_slot_of-requires-clause-parts g c =
    let shorter = ap length c.in-Some.ensures.steps.0 in
    omega (arith, c.loop-reader.invariant.parts, c.loop-reader.invariant.less, shorter)

pub loop-reader-preserved : goal.loop-reader-preserved
loop-reader-preserved g c =
    let longer = ap length c.in_ok-push.ensures.items ∙ length-append c.loop-reader.pool_slots.items _ in
    let shorter = ap length c.in-Some.ensures.steps.0 in
    let less = ap (λ (r : Receiving). r.parts) c.in_ok-worker_slot_of.ensures.parts in
    record {
      same = search rules;
      draws = search rules;
      count = omega (arith, c.loop-reader.invariant.count, longer, shorter);
      learned = learned_more c.args.writer.now.known c.loop-reader.writer.known _ _ _ (ap (λ (w : Writing). w.known) c.loop-reader.invariant.same) c.in_ok-push.ensures.items
          c.loop-reader.invariant.learned c.in_ok-worker_slot_of.ensures.learned;
      rest = others_of c.args.writer.now.known _ _ c.in-Some.reader c.in-Some.ensures.steps.0 c.loop-reader.invariant.rest;
      new = others_new _ _ c.in-Some.reader c.in-Some.ensures.steps.0 c.loop-reader.invariant.new;
      kept = less_parts c.args.receiver.now c.loop-reader.receiver _ c.loop-reader.invariant.kept c.in_ok-worker_slot_of.ensures.parts;
      parts = omega (arith, c.loop-reader.invariant.parts, c.loop-reader.invariant.less, shorter, less);
      less = c.loop-reader.invariant.less;
      books = books_more c.args.receiver.now c.loop-reader.receiver _ _ _ c.loop-reader.invariant.kept c.in_ok-push.ensures.items
          c.loop-reader.invariant.books c.in_ok-worker_slot_of.ensures.books;
    }

pub returns-clause-parts : goal.returns-clause-parts
returns-clause-parts g c =
    let none : length c.loop-reader.reader-iterator.rest.items ≡ 0 = search rules in
    omega (arith, c.loop-reader.invariant.parts, c.loop-reader.invariant.count, none)
