use Rattle.std.proofs.Common.{◌≡◌, drop}
use Rattle.std.specs.Prelude.{flat_map, nat_lt}
use Rattle.std.specs.List.{find}
use Rattle.unl_documents.specs.Inline.{counts}
use Rattle.unl_documents.proofs.excess.first_excess_among.Given as goal

abbrev pub invariant-loop-shared : goal.invariant-loop-shared
invariant-loop-shared l = find (nat_lt 100) (flat_map (λ f. counts l.segments f.strategies) (drop l.shared-index l.features)) ≡ find (nat_lt 100) (flat_map (λ f. counts l.segments f.strategies) l.features)
