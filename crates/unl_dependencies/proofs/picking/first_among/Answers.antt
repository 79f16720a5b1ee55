use Rattle.std.proofs.Common.{◌<◌, length, sym, subst, ◌∙◌}
use Rattle.unl_dependencies.specs.Evaluation.{first_active}
use Rattle.unl_dependencies.proofs.Places.{active_here, active_later}
use Rattle.unl_dependencies.proofs.picking.first_among.Goals as goal

pub returns-then-branch : goal.returns-then-branch
unfolding first_active
returns-then-branch g c =
    let f = g.F.Features.document c.args.feature.now in
    let segments = (g.F.Features.state c.args.features.now).segments in
    let lt : c.loop-place.place < length f.strategies = subst (λ count. c.loop-place.place < count) c.requires.all c.loop-place-test.true in
    sym (active_here f segments c.args.context.now c.args.moment.now c.loop-place.place c.in_ok-is_active.field-0 lt c.in_ok-is_active.ensures c.if-branch.true) ∙ c.loop-place.invariant

pub loop-place-preserved : goal.loop-place-preserved
loop-place-preserved g c =
    let f = g.F.Features.document c.args.feature.now in
    let segments = (g.F.Features.state c.args.features.now).segments in
    let lt : c.loop-place.place < length f.strategies = subst (λ count. c.loop-place.place < count) c.requires.all c.loop-place-test.true in
    sym (active_later f segments c.args.context.now c.args.moment.now c.loop-place.place c.in_ok-is_active.field-0 lt c.in_ok-is_active.ensures c.if-branch.false) ∙ c.loop-place.invariant
