use Rattle.std.proofs.Common.{arith}
use Rattle.unl_load.proofs.Counting.{all_counted, counts_next}
use Rattle.unl_load.proofs.asking.count_on.Goals as goal

pub loop-asked-preserved : goal.loop-asked-preserved
loop-asked-preserved c =
    counts_next c.args.snapshot.now.state c.args.words.now c.args.count c.loop-asked.asked c.loop-asked.on c.counted-on.result c.take-feature.result
    c.take-user.result c.loop-asked.words c.take-feature.new.words c.take-user.new.words c.in_ok-is_on_for.field-0 c.loop-asked-test.true
    c.loop-asked.invariant c.take-feature.ensures.word c.take-feature.ensures.next c.take-user.ensures.word c.take-user.ensures.next
    c.in_ok-is_on_for.ensures c.counted-on.ensures

pub returns-clause-on : goal.returns-clause-on
returns-clause-on c =
    all_counted c.args.snapshot.now.state c.args.words.now c.args.count c.loop-asked.asked c.loop-asked.on c.loop-asked.words
    (omega (arith, c.loop-asked-test.false)) c.loop-asked.invariant
