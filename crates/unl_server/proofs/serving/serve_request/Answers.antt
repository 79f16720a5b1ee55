use Rattle.std.proofs.Common.{◌≡◌, Bool, ◌||◌, refl, sym, ap, ◌∙◌}
use Rattle.unl_server.proofs.ExchangeLemmas.{turn_refused, turn_cut}
use Rattle.unl_server.proofs.serving.serve_request.Goals as goal
use Rattle.unl_server.proofs.serving.serve_request.Goals.{then-request, else-request}

pub returns-in-Bad-clause-turn : goal.returns-in-Bad-clause-turn
returns-in-Bad-clause-turn g c =
    turn_refused _ _ _ _ _ c.in-Bad.status c.refuse.result _ _ _ c.in-Bad.ensures.found c.refuse.ensures.left refl
    c.in-Bad.ensures.sent c.refuse.ensures.refuses

pub returns-in-Some-clause-turn : goal.returns-in-Some-clause-turn
returns-in-Some-clause-turn g c =
    let close : c.if-request.close ≡ (c.in-Request.request.close || c.args.last) =
    elim c.if-request.branch [
      | then-request w ↦ w.close-is ∙ w.if-request.true ∙ sym (ap (λ (b : Bool). b || c.args.last) w.if-request.true)
      | else-request w ↦ w.close-is ∙ sym (ap (λ (b : Bool). b || c.args.last) w.if-request.false)
    ] in
    turn_cut _ _ _ _ _ _ c.in-Request.request c.in-Some.end _ _ _ c.in-Request.ensures.found c.in-Some.ensures.left refl
    c.in-Request.ensures.sent close c.in-Some.ensures.replied
