use Rattle.std.proofs.Common.{◌≡◌, drop}
use Rattle.unl_compiled.specs.Places.{listed}
use Rattle.unl_compiled.proofs.index.places_of.Given as goal

abbrev pub invariant-loop-entry : goal.invariant-loop-entry
invariant-loop-entry l = listed l.project (drop l.entry-index l.index) ≡ listed l.project l.index
