-- The requests that were answered on a link, and the number of draws that were taken for them.
use Rattle.std.proofs.Common.{◌≡◌, ℕ, ◌+◌, ◌⊎◌, inl, inr, List, [], ◌∷◌, length, Option, Some, None, refl, ap, ◌∙◌, arith}
use Rattle.std.proofs.lemmas.List.{drop-drop}
use Rattle.unl_base.specs.declared.draws.Draw.{Draw}
use Rattle.unl_base.specs.Draws.{TakesDraw}
use Rattle.unl_server.specs.Handling.{HandlerState, HandlesRequest, Coming, RunsOutOfMemory, handler_state}
use Rattle.unl_server.specs.Conversation.{AreAnswered, Concludes, GivesUp}
use Rattle.unl_server.proofs.AskedLemmas.{Asks, asks}
use Rattle.unl_http_api.specs.declared.end.End.{End}
use Rattle.unl_http_api.specs.declared.end.End.TheVariants as ends
use Rattle.unl_http_api.specs.declared.reply.Reply.{Reply}
use Rattle.unl_http_api.specs.declared.request.Request.{Request}
use Rattle.unl_http_api.specs.Session.{ReadsRequests}
use Rattle.unl_upstream.specs.Served.{draws_after}

-- the type of a relation between a state, a request, its draw, its reply, and the state after it
abbrev Giving : Type 0 → Type 1
Giving S = S → Request → Draw → Reply → S → Type 0

answered_counts : {S : Type 0} (gives : Giving S) (count : ℕ) (qs : List Request) (text : List ℕ) (before after : HandlerState S)
    → AreAnswered (HandlesRequest gives) count before qs text after → after.count ≡ before.count + length qs
answered_counts {S} gives count [] text before after answered = ap (λ (s : HandlerState S). s.count) answered.1 ∙ omega arith
answered_counts {S} gives count (q ∷ qs) text before after answered =
    let middle : HandlerState S = answered.1 in
    let step : HandlesRequest gives before q answered.0 middle = answered.3 in
    answered_counts gives (count + 1) qs answered.2 middle after answered.5 ∙ ap (λ n. n + length qs) step.counted ∙ omega arith

-- taking n draws and then m is taking n + m
pub draws_both : (m n : ℕ) (coming : Coming) → draws_after m (draws_after n coming) ≡ draws_after (n + m) coming
draws_both m n None = refl
draws_both m n (Some draws) = ap (λ (ds : List Draw). Some (ds, draws.1)) (drop-drop m n draws.0)

-- taking no draw changes nothing
draws_none : (coming : Coming) → coming ≡ draws_after 0 coming
draws_none None = refl
draws_none (Some draws) = refl

-- the upcoming draws after one was taken are `draws_after 1`
draws_one : (coming : Coming) (draw : Draw) (coming_after : Coming) → TakesDraw coming draw coming_after → coming_after ≡ draws_after 1 coming
draws_one None draw coming_after taken = taken
draws_one (Some ([], last)) draw coming_after taken = taken.1
draws_one (Some (first ∷ rest, last)) draw coming_after taken = taken.1

answered_draws : {S : Type 0} (gives : Giving S) (count : ℕ) (qs : List Request) (text : List ℕ) (before after : HandlerState S)
    → AreAnswered (HandlesRequest gives) count before qs text after → after.coming ≡ draws_after (length qs) before.coming
answered_draws {S} gives count [] text before after answered = ap (λ (s : HandlerState S). s.coming) answered.1 ∙ draws_none before.coming
answered_draws {S} gives count (q ∷ qs) text before after answered =
    let middle : HandlerState S = answered.1 in
    let step : HandlesRequest gives before q answered.0 middle = answered.3 in
    let longer : 1 + length qs ≡ length (q ∷ qs) = omega arith in
    answered_draws gives (count + 1) qs answered.2 middle after answered.5
    ∙ ap (draws_after (length qs)) (draws_one before.coming step.draw middle.coming step.taken)
    ∙ draws_both (length qs) 1 before.coming
    ∙ ap (λ n. draws_after n before.coming) longer

-- ---- a link that was served

-- a handler whose state does not change when memory runs out
abbrev pub Stays : {S : Type 0} → S → Request → Draw → S → Type 0
Stays before q draw after = after ≡ before

-- The first requests of the link, one for each answer, and the number of draws taken for them: one each, or one more in all if
-- memory ran out.
pub record Took
    {S : Type 0} (gives : Giving S) (bytes : List ℕ) (before : S) (coming : Coming) (end : End) (count : ℕ) (after : S) (coming_after : Coming) : Type 0 where
  pub requests : List Request
  pub rest : List ℕ
  pub reads : ReadsRequests bytes requests rest
  pub counted : length requests ≡ count
  pub text : List ℕ
  pub reached : HandlerState S
  pub answered : AreAnswered (HandlesRequest gives) 0 (handler_state before 0 coming) requests text reached
  pub state : after ≡ reached.state
  pub taken : ℕ
  pub takes : (taken ≡ count) ⊎ ((end ≡ ends.Memory) × (taken ≡ count + 1))
  pub draws : coming_after ≡ draws_after taken coming

pub took : {S : Type 0} (gives : Giving S) (bytes : List ℕ) (back : List ℕ × ℕ) (before : S) (coming : Coming) (end : End) (count : ℕ) (after : S)
    (coming_after : Coming) (left_after : Option (List ℕ))
    → Concludes (HandlesRequest gives) bytes (Some []) (handler_state before 0 coming) end (handler_state after count coming_after) left_after (Some back.0)
    → (end ≡ ends.Memory → GivesUp (HandlesRequest gives) (RunsOutOfMemory Stays) bytes (Some []) 0 (handler_state before 0 coming) (handler_state after count coming_after) (Some back.0) back.1)
    → Took gives bytes before coming end count after coming_after
took {S} gives bytes back before coming end count after coming_after left_after conversation memory = by_next asked.next
  where
    asked : Asks (HandlesRequest gives) (RunsOutOfMemory Stays) bytes (handler_state before 0 coming) end (handler_state after count coming_after)
    asked = asks bytes (handler_state before 0 coming) (handler_state after count coming_after) end (Some []) left_after (Some back.0) 0 back.1 conversation memory

    counts : asked.reached.count ≡ 0 + length asked.requests
    counts = answered_counts gives 0 asked.requests asked.text (handler_state before 0 coming) asked.reached asked.answered

    draws : asked.reached.coming ≡ draws_after (length asked.requests) coming
    draws = answered_draws gives 0 asked.requests asked.text (handler_state before 0 coming) asked.reached asked.answered

    draw_count : (taken : ℕ) → after ≡ asked.reached.state → count ≡ asked.reached.count → coming_after ≡ draws_after taken coming
        → (taken ≡ count) ⊎ ((end ≡ ends.Memory) × (taken ≡ count + 1)) → Took gives bytes before coming end count after coming_after
    draw_count taken state notes come takes = record {
      requests = asked.requests;
      rest = asked.rest;
      reads = asked.reads;
      counted = omega (arith, notes, counts);
      text = asked.text;
      reached = asked.reached;
      answered = asked.answered;
      state = state;
      taken = taken;
      takes = takes;
      draws = come;
    }

    by_next : (handler_state after count coming_after ≡ asked.reached)
        ⊎ ((end ≡ ends.Memory) × (request : Request) × RunsOutOfMemory Stays asked.reached request (handler_state after count coming_after))
        → Took gives bytes before coming end count after coming_after
    by_next (inl same) =
        let notes : count ≡ asked.reached.count = ap (λ (s : HandlerState S). s.count) same in
        draw_count (length asked.requests) (ap (λ (s : HandlerState S). s.state) same) notes (ap (λ (s : HandlerState S). s.coming) same ∙ draws) (inl (omega (arith, notes, counts)))
    by_next (inr lacks) =
        let notes : count ≡ asked.reached.count = lacks.2.counted in
        draw_count (length asked.requests + 1) lacks.2.ran_out notes
        (draws_one asked.reached.coming lacks.2.draw coming_after lacks.2.taken ∙ ap (draws_after 1) draws ∙ draws_both 1 (length asked.requests) coming)
        (inr (lacks.0, omega (arith, notes, counts)))
