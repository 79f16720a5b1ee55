use Rattle.std.proofs.Common.{◌∙◌, List, ℕ, ap, arith, refl, subst, sym}
use Rattle.std.specs.Prelude.{IsTrue}
use Rattle.unl_http_api.specs.RequestText.{fits_if_any, fits_line}
use Rattle.unl_refresh.specs.declared.ask.Ask.{Ask}
use Rattle.unl_refresh.specs.Refresh.{with_tag}
use Rattle.unl_follow.specs.Replica.{Kept, installed_by}
use Rattle.unl_follow.proofs.Turning.{Paced_begin, Reached_begin, Reached_next, all_made, cut_runs, stopped, went_on}
use Rattle.unl_follow.proofs.run.follow.Goals as goal

pub loop-made-init : goal.loop-made-init
loop-made-init g c = record {
  reached = Reached_begin _ _ _ _ (λ i. record { installed = installed_by (c.new-replica.ensures i); tag = c.requires.new i });
  paced = Paced_begin _;
  front = omega (arith, ap (λ (k : Kept). k.front) c.new-replica.ensures);
  same = refl;
  tag = ap fits_if_any c.requires.new;
  later = omega arith;
}

pub turn-requires-clause-front : goal.turn-requires-clause-front
turn-requires-clause-front g c = omega (arith, c.loop-made.invariant.front, c.loop-made-test.true, c.ranges.turns.fits)

pub turn-requires-clause-host : goal.turn-requires-clause-host
turn-requires-clause-host g c =
    subst (λ (host : List ℕ). IsTrue (fits_line host)) (sym (ap (λ (a : Ask). a.host) c.loop-made.invariant.same)) c.requires.host

pub turn-requires-clause-token : goal.turn-requires-clause-token
turn-requires-clause-token g c =
    subst (λ (token : List ℕ). IsTrue (fits_line token)) (sym (ap (λ (a : Ask). a.token) c.loop-made.invariant.same)) c.requires.token

pub turn-requires-clause-tag : goal.turn-requires-clause-tag
turn-requires-clause-tag g c = c.loop-made.invariant.tag

pub loop-made-preserved : goal.loop-made-preserved
loop-made-preserved g c =
    let so_far = c.loop-made.invariant in
    let turn = c.in-Ok.ensures in
    let paces = c.if-not-has_next_turn.ensures in
    record {
      reached = Reached_next _ _ so_far.same _ _ _ _ _ _ _ so_far.reached turn.turn;
      paced = went_on _ _ _ _ so_far.paced paces.first paces.takes paces.observable;
      front = omega (arith, so_far.front, turn.next_front);
      same = turn.same_ask ∙ ap (λ (a : Ask). with_tag c.turn.new.ask.tag a) so_far.same;
      tag = turn.next_tag;
      later = omega (arith, so_far.later, turn.later);
    }

pub returns-then-not-has_next_turn-clause-runs : goal.returns-then-not-has_next_turn-clause-runs
returns-then-not-has_next_turn-clause-runs g c =
    let so_far = c.loop-made.invariant in
    let paces = c.if-not-has_next_turn.ensures in (
      so_far.reached.turns,
      stopped _ _ _ _ _ _ so_far.paced so_far.reached.many c.loop-made-test.true paces.first paces.observable paces.unobservable,
      so_far.reached.follows,
    )

pub returns-then-not-has_next_turn-clause-later : goal.returns-then-not-has_next_turn-clause-later
returns-then-not-has_next_turn-clause-later g c = c.loop-made.invariant.later

pub returns-in-Err-clause-runs : goal.returns-in-Err-clause-runs
returns-in-Err-clause-runs g c =
    let so_far = c.loop-made.invariant in
    cut_runs _ _ so_far.same _ _ _ _ _ _ _ c.args.turns (g.T.Pace.turns c.args.pace.now) c.turn.result c.in-Err.fault so_far.reached c.in-Err.is
    c.turn.ensures.cut c.turn.ensures.memory

pub returns-in-Err-clause-later : goal.returns-in-Err-clause-later
returns-in-Err-clause-later g c = omega (arith, c.loop-made.invariant.later, c.in-Err.ensures.later)

pub returns-in-Err-clause-cause : goal.returns-in-Err-clause-cause
returns-in-Err-clause-cause g c is = omega (arith, c.loop-made.invariant.later, c.in-Err.ensures.cause is)

pub returns-clause-runs : goal.returns-clause-runs
returns-clause-runs g c =
    let so_far = c.loop-made.invariant in (
      so_far.reached.turns,
      all_made _ _ _ _ _ so_far.paced so_far.reached.many (omega (arith, c.loop-made.auto.made-end, c.loop-made-test.false)),
      so_far.reached.follows,
    )

pub returns-clause-later : goal.returns-clause-later
returns-clause-later g c = c.loop-made.invariant.later
