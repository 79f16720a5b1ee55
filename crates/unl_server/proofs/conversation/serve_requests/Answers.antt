use Rattle.std.proofs.Common.{◌≡◌, ◌<◌, [], ◌∷◌, ◌++◌, length, refl, ap, arith, length-append, Some}
use Rattle.unl_http_api.specs.declared.end.End.TheVariants.{Limit}
use Rattle.unl_http_api.proofs.SessionLemmas.{StayOpen_more}
use Rattle.unl_server.proofs.CompleteLemmas.{Rose_earlier, converses_so}
use Rattle.unl_server.proofs.ConversationLemmas.{Talk_begin, Talk_more, concludes, concludes_limit, last_turn}
use Rattle.unl_server.proofs.ReachesLemmas.{Answers_count, gives_up, reaches, reaches_same}
use Rattle.unl_server.proofs.conversation.serve_requests.Goals as goal

pub loop-turn-init : goal.loop-turn-init
loop-turn-init g c = record {
  requests = [];
  talk = rw c.new-reader.ensures (Talk_begin _ _ _ _);
  stay = tt;
  asked = refl;
  counted = refl;
  fits = c.requires;
  keeps = g.met.A.RequestHandler.keeps_itself _;
  later = omega arith;
}

pub loop-turn-preserved : goal.loop-turn-preserved
loop-turn-preserved g c =
    let so_far = c.loop-turn.invariant in
    let turn = c.in_default.ensures.turn in
    record {
      requests = so_far.requests ++ turn.request ∷ [];
      talk = Talk_more _ _ _ _ so_far.requests _ _ so_far.talk (last_turn _ _ so_far.asked) turn;
      stay = StayOpen_more so_far.requests turn.request so_far.stay turn.closes;
      asked = omega (arith, so_far.asked, length-append so_far.requests (turn.request ∷ []));
      counted = omega (arith, so_far.counted, turn.replies.steps.counted);
      fits = c.in_default.ensures.fits;
      keeps = g.met.A.RequestHandler.keeps_on _ _ _ so_far.keeps c.in_default.ensures.keeps;
      later = omega (arith, so_far.later, c.in_default.ensures.later);
    }

pub returns-in-Some-clause-converses : goal.returns-in-Some-clause-converses
returns-in-Some-clause-converses g c =
    let so_far = c.loop-turn.invariant in
    let turn = c.in-Some.ensures in
    let few : length so_far.requests < 1000 = omega (arith, so_far.asked, c.loop-turn-test.true) in
    converses_so _ _ _ _ c.in-Some.end _ _ _
    (λ bytes known. concludes _ _ _ _ _ so_far.requests _ bytes c.in-Some.end so_far.talk (last_turn _ _ so_far.asked)
    so_far.stay few known turn.turn)
    (λ bytes known sent_500. gives_up _ _ _ _ _ so_far.requests _ bytes c.in-Some.end _ _ _ so_far.talk so_far.stay few known sent_500
    turn.turn so_far.later (turn.sent_500 (ap Some sent_500)))
    (reaches _ _ _ (Answers_count g.A.RequestHandler.gives g.A.RequestHandler.out_of_memory) _ _ _ so_far.requests _ c.in-Some.end
    so_far.talk (omega (arith, so_far.asked, so_far.counted)) turn.turn)
    (omega (arith, so_far.later, turn.later))
    (λ is. Rose_earlier _ _ _ so_far.later (turn.read_cause (ap Some is)))
    (λ is. Rose_earlier _ _ _ so_far.later (turn.write_cause (ap Some is)))

pub returns-in-Some-clause-keeps : goal.returns-in-Some-clause-keeps
returns-in-Some-clause-keeps g c = g.met.A.RequestHandler.keeps_on _ _ _ c.loop-turn.invariant.keeps c.in-Some.ensures.keeps

pub returns-clause-converses : goal.returns-clause-converses
returns-clause-converses g c =
    let so_far = c.loop-turn.invariant in
    let full : length so_far.requests ≡ 1000 = omega (arith, so_far.asked, c.loop-turn-test.false) in
    converses_so _ _ _ _ Limit _ _ _
    (λ bytes known. concludes_limit _ _ _ so_far.requests bytes so_far.talk so_far.stay full known)
    (λ bytes known sent_500. absurd (cc))
    (reaches_same _ _ (λ s. s.count) _ _ _ so_far.requests _ so_far.talk (omega (arith, so_far.asked, so_far.counted)) refl)
    so_far.later (λ is. absurd (cc)) (λ is. absurd (cc))
