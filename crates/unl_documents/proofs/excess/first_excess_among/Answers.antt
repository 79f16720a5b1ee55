use Rattle.std.proofs.Common.{rules}
use Rattle.std.specs.Prelude.{nat_lt}
use Rattle.unl_documents.specs.Inline.{counts}
use Rattle.unl_documents.proofs.FirstPast.{found_here, found_later}
use Rattle.unl_documents.proofs.excess.first_excess_among.Goals as goal

pub returns-then-is_some : goal.returns-then-is_some
returns-then-is_some c = found_here (nat_lt 100) (λ f. counts c.args.segments.now f.strategies) c.args.features.now c.loop-shared.shared-index c.shared-item.result c.in_ok-found.found c.loop-shared-test.true c.shared-item.is (search rules) (search rules) c.loop-shared.invariant

pub loop-shared-preserved : goal.loop-shared-preserved
loop-shared-preserved c = found_later (nat_lt 100) (λ f. counts c.args.segments.now f.strategies) c.args.features.now c.loop-shared.shared-index c.shared-item.result c.in_ok-found.found c.loop-shared-test.true c.shared-item.is (search rules) (search rules) c.loop-shared.invariant
