use Rattle.std.proofs.Common.{rules, map, fold, ap, refl, ◌∙◌, ◌<◌, length, List, ℕ}
use Rattle.form_urlencoded.specs.Parse.{pairs_left}
use Rattle.unl_context.specs.Query.{with_pair, text_pair, pairs_of}
use Rattle.unl_context.proofs.Counting.{stays_over}
use Rattle.unl_context.proofs.Pairs.{step, is_done}
use Rattle.unl_context.proofs.query.Settings.take_all.Goals as goal

pub loop-pair-init : goal.loop-pair-init
unfolding pairs_of
loop-pair-init c = ap (λ pairs. fold with_pair c.args.self.now (map text_pair (pairs_left pairs))) c.into_iter-pair-iterator.ensures.into_iter_gives ∙ ap (λ left. fold with_pair c.args.self.now (map text_pair left)) c.parse-pair-items.ensures.value

pub returns-in_err-take-clause-large : goal.returns-in_err-take-clause-large
returns-in_err-take-clause-large c is =
    let pair : List ℕ × List ℕ = (c.deref.result.now, c.deref-in-loop-pair.result.now) in
    let total = fold with_pair c.args.self.now (pairs_of c.args.query.now) in
    let many : 256 < length (with_pair c.loop-pair.self pair).plain.properties = search rules in
    let rest = step with_pair c.loop-pair.pair-iterator c.next.new.self c.in-Some.pair c.in_ok-key.key c.in_ok-key.value c.deref.result.now c.deref-in-loop-pair.result.now c.loop-pair.self (with_pair c.loop-pair.self pair) total c.in-Some.ensures.steps.0 c.in_ok-key.was c.deref.ensures.value c.deref-in-loop-pair.ensures.value refl c.loop-pair.invariant in
    stays_over (map text_pair (pairs_left c.next.new.self)) (with_pair c.loop-pair.self pair) total rest many

pub loop-pair-preserved-in_ok-take : goal.loop-pair-preserved-in_ok-take
loop-pair-preserved-in_ok-take c = step with_pair c.loop-pair.pair-iterator c.next.new.self c.in-Some.pair c.in_ok-key.key c.in_ok-key.value c.deref.result.now c.deref-in-loop-pair.result.now c.loop-pair.self c.take.new.self (fold with_pair c.args.self.now (pairs_of c.args.query.now)) c.in-Some.ensures.steps.0 c.in_ok-key.was c.deref.ensures.value c.deref-in-loop-pair.ensures.value c.in_ok-take.ensures.ok c.loop-pair.invariant

pub loop-pair-preserved : goal.loop-pair-preserved
loop-pair-preserved c = step with_pair c.loop-pair.pair-iterator c.next.new.self c.in-Some.pair c.in_ok-key.key c.in_ok-key.value c.deref.result.now c.deref-in-loop-pair.result.now c.loop-pair.self c.take.new.self (fold with_pair c.args.self.now (pairs_of c.args.query.now)) c.in-Some.ensures.steps.0 c.in_ok-key.was c.deref.ensures.value c.deref-in-loop-pair.ensures.value c.in_ok-take.ensures.ok c.loop-pair.invariant

pub returns-clause-ok : goal.returns-clause-ok
returns-clause-ok c = is_done with_pair c.loop-pair.pair-iterator c.loop-pair.self (fold with_pair c.args.self.now (pairs_of c.args.query.now)) c.in-None.ensures.steps.0 c.loop-pair.invariant
