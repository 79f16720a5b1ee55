use Rattle.std.proofs.Common.{◌≡◌, map}
use Rattle.unl_base.proofs.concurrent.start_all.Given as goal

abbrev pub invariant-loop-job : goal.invariant-loop-job
invariant-loop-job g l = map (λ handle. handle.promise.was.value) l.started.items ≡ l.yielded
