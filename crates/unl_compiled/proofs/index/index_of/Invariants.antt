use Rattle.std.proofs.Common.{◌≡◌, ℕ, List, ◌++◌, drop}
use Rattle.unl_compiled.specs.Places.{listed, places_from}
use Rattle.unl_documents.specs.Chunks.{joined}
use Rattle.unl_compiled.proofs.index.index_of.Given as goal

abbrev pub invariant-loop-chunk : goal.invariant-loop-chunk
invariant-loop-chunk l = (p : List ℕ) → listed p l.index ++ places_from l.place p (joined (drop l.chunk-index l.chunks)) ≡ places_from 0 p (joined l.chunks)
