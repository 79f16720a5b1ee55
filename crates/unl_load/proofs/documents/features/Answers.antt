use Rattle.std.proofs.Common.{◌∙◌, arith}
use Rattle.unl_load.proofs.Made.{all_made, makes_next}
use Rattle.unl_load.proofs.documents.features.Goals as goal

pub loop-place-preserved : goal.loop-place-preserved
loop-place-preserved c =
    makes_next c.args.words.now c.loop-place.place c.loop-place.features c.push.new.self c.loop-place.words c.take.new.words c.take.result
    c.in_ok-new.field-0 c.loop-place-test.true c.loop-place.invariant c.take.ensures.word c.take.ensures.next
    (c.in_ok-new.ensures ∙ c.in_ok-feature.ensures) c.in_ok-push.ensures.ok

pub returns-clause-made : goal.returns-clause-made
returns-clause-made c =
    (all_made c.args.words.now c.loop-place.place c.loop-place.features c.loop-place.words (omega (arith, c.loop-place-test.false, c.loop-place.auto)) c.loop-place.invariant).0

pub returns-clause-taken : goal.returns-clause-taken
returns-clause-taken c =
    (all_made c.args.words.now c.loop-place.place c.loop-place.features c.loop-place.words (omega (arith, c.loop-place-test.false, c.loop-place.auto)) c.loop-place.invariant).1
