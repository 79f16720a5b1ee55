use Rattle.std.proofs.Common.{arith, ap, length, length-append, ◌∷◌, []}
use Rattle.unl_base.proofs.Doing.{joined_one}
use Rattle.unl_base.proofs.concurrent.join_all.Goals as goal

pub loop-handle-preserved : goal.loop-handle-preserved
loop-handle-preserved g c =
    let rest = ap length c.in-Some.ensures.steps.0 in
    let grown = ap length c.keep.ensures.items in (
      joined_one g.J.Job.worked (λ handle. handle.promise.was.value) c.loop-handle.yielded c.loop-handle.done.items c.keep.new.done.items
          c.in-Some.handle c.join.result c.loop-handle.invariant.0 c.join.ensures c.keep.ensures.items,
      omega (arith, rest, grown, length-append c.loop-handle.done.items (c.join.result ∷ []), c.keep.ensures.room, c.loop-handle.invariant.1),
    )
