use Rattle.std.proofs.Common.{◌≤◌, ◌+◌, length, map, vec_capacity}
use Rattle.std.specs.List.{AllZip}
use Rattle.unl_base.proofs.concurrent.join_all.Given as goal

abbrev pub invariant-loop-handle : goal.invariant-loop-handle
invariant-loop-handle g l =
    AllZip g.J.Job.worked (map (λ handle. handle.promise.was.value) l.yielded) l.done.items
    × (length l.done.items + length l.handle-iterator.rest.items ≤ vec_capacity l.done)
