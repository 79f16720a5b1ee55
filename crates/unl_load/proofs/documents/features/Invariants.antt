use Rattle.unl_load.proofs.Made.{Makes}
use Rattle.unl_load.proofs.documents.features.Given as goal

abbrev pub invariant-loop-place : goal.invariant-loop-place
invariant-loop-place l = Makes l.initial.words l.place l.features l.words
