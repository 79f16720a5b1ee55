use Rattle.std.proofs.Common.{◌≡◌, drop}
use Rattle.std.specs.Prelude.{flat_map, nat_lt}
use Rattle.std.specs.List.{find}
use Rattle.unl_documents.specs.Inline.{counts}
use Rattle.unl_documents.proofs.excess.first_excess_in.Given as goal

abbrev pub invariant-loop-chunk : goal.invariant-loop-chunk
invariant-loop-chunk l =
    find (nat_lt 100) (flat_map (λ chunk. flat_map (λ f. counts l.segments f.strategies) chunk) (drop l.chunk-index l.chunks))
    ≡ find (nat_lt 100) (flat_map (λ chunk. flat_map (λ f. counts l.segments f.strategies) chunk) l.chunks)
