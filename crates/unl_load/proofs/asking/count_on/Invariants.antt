use Rattle.unl_load.proofs.Counting.{Counts}
use Rattle.unl_load.proofs.asking.count_on.Given as goal

abbrev pub invariant-loop-asked : goal.invariant-loop-asked
invariant-loop-asked l = Counts l.snapshot.state l.initial.words l.count l.asked l.on l.words
