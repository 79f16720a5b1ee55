use Rattle.std.proofs.Common.{◌≡◌, ◌++◌, map, take, drop}
use Rattle.unl_compiled.specs.Moving.{shifted}
use Rattle.unl_compiled.proofs.index_change.shift_all.Given as goal

abbrev pub invariant-loop-place : goal.invariant-loop-place
invariant-loop-place l = l.places ≡ map (shifted l.less l.more) (take l.place-index l.initial.places) ++ drop l.place-index l.initial.places
