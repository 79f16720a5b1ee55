use Rattle.std.proofs.Common.{◌≡◌, ◌<◌, [], ◌∷◌, ◌++◌, length, refl, ◌∙◌, arith, length-append}
use Rattle.unl_http_api.proofs.SessionLemmas.{Reads_more, StayOpen_more}
use Rattle.unl_http_api.proofs.FirstItemLemmas.{session_asked, session_limit, session_refused, session_over}
use Rattle.unl_http_api.proofs.WholeLemmas.{has_one_of}
use Rattle.unl_http_api.proofs.first_item.has_one_session.Goals as goal

pub loop-turn-init : goal.loop-turn-init
loop-turn-init c = record { asked = []; reads = refl; stay = tt; count = refl }

pub returns-then-close : goal.returns-then-close
returns-then-close c =
    let so_far = c.loop-turn.invariant in
    let few : length so_far.asked < 1000 = omega (arith, so_far.count, c.loop-turn-test.true) in
    let one = c.in-Request.ensures in
    has_one_of c.args.bytes.now
    (session_asked c.args.bytes.now so_far.asked _ _ one.0 so_far.reads so_far.stay few one.1 (one.2 ∙ c.if-close.true))

pub returns-in-More : goal.returns-in-More
returns-in-More c =
    let so_far = c.loop-turn.invariant in
    let few : length so_far.asked < 1000 = omega (arith, so_far.count, c.loop-turn-test.true) in
    has_one_of c.args.bytes.now
    (session_over c.args.bytes.now so_far.asked _ so_far.reads so_far.stay few c.in-More.ensures)

pub returns-in-Bad : goal.returns-in-Bad
returns-in-Bad c =
    let so_far = c.loop-turn.invariant in
    let few : length so_far.asked < 1000 = omega (arith, so_far.count, c.loop-turn-test.true) in
    has_one_of c.args.bytes.now
    (session_refused c.args.bytes.now so_far.asked _ _ so_far.reads so_far.stay few c.in-Bad.ensures)

pub loop-turn-preserved : goal.loop-turn-preserved
loop-turn-preserved c =
    let so_far = c.loop-turn.invariant in
    let one = c.in-Request.ensures in
    record {
      asked = so_far.asked ++ one.0 ∷ [];
      reads = rw c.after-rest.ensures (Reads_more c.args.bytes.now so_far.asked one.0 _ _ so_far.reads one.1);
      stay = StayOpen_more so_far.asked one.0 so_far.stay (one.2 ∙ c.if-close.false);
      count = omega (arith, so_far.count, length-append so_far.asked (one.0 ∷ []));
    }

pub returns : goal.returns
returns c =
    let so_far = c.loop-turn.invariant in
    let full : length so_far.asked ≡ 1000 = omega (arith, so_far.count, c.loop-turn-test.false) in
    has_one_of c.args.bytes.now
    (session_limit c.args.bytes.now so_far.asked _ so_far.reads so_far.stay full)
