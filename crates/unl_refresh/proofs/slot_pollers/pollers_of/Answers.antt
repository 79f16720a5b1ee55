use Rattle.std.proofs.Common.{◌∙◌, ap, arith, length, length-append, rules}
use Rattle.unl_refresh.specs.declared.ask.Ask.{Ask}
use Rattle.unl_refresh.proofs.SlotParameters.{all_fed, all_untagged, fed_next, untagged_next}
use Rattle.unl_refresh.proofs.slot_pollers.pollers_of.Goals as goal

pub loop-place-preserved : goal.loop-place-preserved
loop-place-preserved c =
    let longer = ap length c.in_ok-push.ensures.items ∙ length-append c.loop-place.slot_pollers.items _ in
    record {
      count = omega (arith, longer, c.loop-place.invariant.count);
      made = fed_next c.args.host.now c.args.delta c.args.tokens.now c.args.environments.now c.loop-place.place _ _ c.loop-place.slot_pollers.items _
          c.in_ok-poller_with.field-0 c.loop-place-test.true c.requires.environments c.in_ok-poller_with.ensures.environment
          c.in_ok-poller_with.ensures.ask (search rules) (search rules) c.in_ok-push.ensures.items c.loop-place.invariant.made;
      tags = untagged_next c.args.tokens.now c.loop-place.place c.loop-place.slot_pollers.items _ c.in_ok-poller_with.field-0
          c.loop-place-test.true (ap (λ (a : Ask). a.tag) c.in_ok-poller_with.ensures.ask) c.in_ok-push.ensures.items c.loop-place.invariant.tags;
    }

pub returns-clause-parameters : goal.returns-clause-parameters
returns-clause-parameters c =
    all_fed c.args.host.now c.args.delta c.args.tokens.now c.args.environments.now c.loop-place.place _ c.loop-place-test.false
    c.loop-place.invariant.made

pub returns-clause-tags : goal.returns-clause-tags
returns-clause-tags c = all_untagged c.args.tokens.now c.loop-place.place _ c.loop-place-test.false c.loop-place.invariant.tags
