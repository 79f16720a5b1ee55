use Rattle.std.proofs.Common.{◌≡◌, ◌+◌, ℕ, List, ◌++◌, drop}
use Rattle.unl_compiled.specs.Places.{listed, places_from}
use Rattle.unl_compiled.proofs.index.add_chunk.Given as goal

abbrev pub invariant-loop-feature : goal.invariant-loop-feature
invariant-loop-feature l = record {
  places : (p : List ℕ) → listed p l.index ++ places_from l.place p (drop l.feature-index l.fn.chunk) ≡ listed p l.initial.index ++ places_from l.fn.first p l.fn.chunk;
  next : l.place ≡ l.fn.first + l.feature-index;
}
