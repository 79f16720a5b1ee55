use Rattle.std.proofs.Common.{◌≡◌, drop}
use Rattle.unl_dependencies.specs.Evaluation.{active_from}
use Rattle.unl_dependencies.proofs.picking.first_among.Given as goal

abbrev pub invariant-loop-place : goal.invariant-loop-place
invariant-loop-place g l =
    let f = g.F.Features.document l.feature in
    let segments = (g.F.Features.state l.features).segments in
    active_from l.place (drop l.place f.strategies) f.name segments l.context l.moment ≡ active_from 0 f.strategies f.name segments l.context l.moment
