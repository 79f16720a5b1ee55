-- Lemmas about the requests that were read from a link.
use Rattle.std.proofs.Common.{◌≡◌, ℕ, ◌+◌, ◌⊎◌, inl, inr, List, [], ◌∷◌, ◌++◌, Option, refl, sym, subst}
use Rattle.unl_server.specs.Conversation.{AreAnswered, Concludes, CutInRefusal, CutInReply, GivesUp, IsUnreplied, Serves}
use Rattle.unl_http_api.specs.declared.end.End.{End}
use Rattle.unl_http_api.specs.declared.end.End.TheVariants as ends
use Rattle.unl_http_api.specs.declared.reply.Reply.{Reply}
use Rattle.unl_http_api.specs.declared.request.Request.{Request}
use Rattle.unl_http_api.specs.Session.{ReadsRequests}
use Rattle.unl_http_api.proofs.SessionLemmas.{Reads-append, Reads_more}

-- The bytes begin with `requests`, each of which was answered. If memory ran out, that may have happened while one more request was
-- handled, which is then not among `requests`.
pub record Asks
    {S : Type 0} (Step : S → Request → Reply → S → Type 0) (RunsOut : S → Request → S → Type 0) (bytes : List ℕ) (before : S)
    (end : End) (after : S) : Type 0 where
  pub requests : List Request
  pub rest : List ℕ
  pub reads : ReadsRequests bytes requests rest
  pub text : List ℕ
  pub reached : S
  pub answered : AreAnswered Step 0 before requests text reached
  pub next : (after ≡ reached) ⊎ ((end ≡ ends.Memory) × (request : Request) × RunsOut reached request after)

-- all requests of a session were answered
by_session : {S : Type 0} {Step : S → Request → Reply → S → Type 0} {RunsOut : S → Request → S → Type 0}
    (bytes : List ℕ) (before after : S) (end ending : End) (sent sent_after : Option (List ℕ)) → Serves Step bytes sent before ending after sent_after
    → Asks Step RunsOut bytes before end after
by_session bytes before after end ending sent sent_after serves = record {
  requests = serves.requests;
  rest = serves.session.rest;
  reads = serves.session.reads;
  text = serves.text;
  reached = after;
  answered = serves.answered;
  next = inl refl;
}

-- requests that begin a prefix of the bytes begin the bytes
by_prefix : {S : Type 0} {Step : S → Request → Reply → S → Type 0} {RunsOut : S → Request → S → Type 0}
    (bytes read rest : List ℕ) (before after : S) (end : End) → bytes ≡ read ++ rest → Asks Step RunsOut read before end after → Asks Step RunsOut bytes before end after
by_prefix bytes read rest before after end split asks = record {
  requests = asks.requests;
  rest = asks.rest ++ rest;
  reads = subst (λ (b : List ℕ). ReadsRequests b asks.requests (asks.rest ++ rest)) (sym split) (Reads-append read asks.requests asks.rest rest asks.reads);
  text = asks.text;
  reached = asks.reached;
  answered = asks.answered;
  next = asks.next;
}

by_reply : {S : Type 0} {Step : S → Request → Reply → S → Type 0} {RunsOut : S → Request → S → Type 0}
    (bytes : List ℕ) (before after : S) (end : End) (sent sent_after : Option (List ℕ)) → CutInReply Step bytes sent before after sent_after
    → Asks Step RunsOut bytes before end after
by_reply bytes before after end sent sent_after cut = record {
  requests = cut.earlier ++ cut.request ∷ [];
  rest = cut.rest;
  reads = cut.reads;
  text = cut.text;
  reached = after;
  answered = cut.answered;
  next = inl refl;
}

by_refusal : {S : Type 0} {Step : S → Request → Reply → S → Type 0} {RunsOut : S → Request → S → Type 0}
    (bytes : List ℕ) (before after : S) (end : End) (sent sent_after : Option (List ℕ)) → CutInRefusal Step bytes sent before after sent_after
    → Asks Step RunsOut bytes before end after
by_refusal bytes before after end sent sent_after cut = record {
  requests = cut.requests;
  rest = cut.session.rest;
  reads = cut.session.reads;
  text = cut.text;
  reached = after;
  answered = cut.answered;
  next = inl refl;
}

-- `AreAnswered` still holds after one more request is answered
answered_more : {S : Type 0} (Step : S → Request → Reply → S → Type 0)
    (count : ℕ) (qs : List Request) (text : List ℕ) (before middle after : S) (q : Request) (reply : Reply)
    → AreAnswered Step count before qs text middle → Step middle q reply after → (longer : List ℕ) × AreAnswered Step count before (qs ++ q ∷ []) longer after
answered_more {S} Step count [] text before middle after q reply answered step =
    (_, (reply, after, [], subst (λ (s : S). Step s q reply after) answered.1 step, refl, (refl, refl)))
answered_more Step count (p ∷ qs) text before middle after q reply answered step =
    let others : (longer : List ℕ) × AreAnswered Step (count + 1) answered.1 (qs ++ q ∷ []) longer after =
    answered_more Step (count + 1) qs answered.2 answered.1 middle after q reply answered.5 step in
    (_, (answered.0, answered.1, others.0, answered.3, refl, others.1))

by_memory : {S : Type 0} {Step : S → Request → Reply → S → Type 0} {RunsOut : S → Request → S → Type 0}
    (bytes : List ℕ) (before after : S) (sent sent_after : Option (List ℕ)) (faults faults_after : ℕ)
    → GivesUp Step RunsOut bytes sent faults before after sent_after faults_after → Asks Step RunsOut bytes before ends.Memory after
by_memory {S} {Step} {RunsOut} bytes before after sent sent_after faults faults_after gives = by_next gives.next
  where
    here : (after ≡ gives.replied) ⊎ ((ends.Memory ≡ ends.Memory) × (request : Request) × RunsOut gives.replied request after) → Asks Step RunsOut bytes before ends.Memory after
    here next = record {
      requests = gives.requests;
      rest = gives.rest;
      reads = gives.reads;
      text = gives.text;
      reached = gives.replied;
      answered = gives.answered;
      next = next;
    }

    one_more : (request : Request) (rest : List ℕ) (reply : Reply) → ReadsRequests bytes (gives.requests ++ request ∷ []) rest → Step gives.replied request reply after
        → Asks Step RunsOut bytes before ends.Memory after
    one_more request rest reply reads step =
        let more : (longer : List ℕ) × AreAnswered Step 0 before (gives.requests ++ request ∷ []) longer after =
        answered_more Step 0 gives.requests gives.text before gives.replied after request reply gives.answered step in
        record {
          requests = gives.requests ++ request ∷ [];
          rest = rest;
          reads = reads;
          text = more.0;
          reached = after;
          answered = more.1;
          next = inl refl;
        }

    by_unreplied : (u : IsUnreplied Step RunsOut gives.rest gives.replied after)
        → RunsOut gives.replied u.request after ⊎ ((reply : Reply) × Step gives.replied u.request reply after) → Asks Step RunsOut bytes before ends.Memory after
    by_unreplied u (inl lacks) = here (inr (refl, u.request, lacks))
    by_unreplied u (inr steps) = one_more u.request u.rest steps.0 (Reads_more bytes gives.requests u.request gives.rest u.rest gives.reads u.begins) steps.1

    by_next : (after ≡ gives.replied) ⊎ IsUnreplied Step RunsOut gives.rest gives.replied after → Asks Step RunsOut bytes before ends.Memory after
    by_next (inl same) = here (inl same)
    by_next (inr u) = by_unreplied u u.unreplied

-- however a connection ended, the bytes of its link begin with the requests that were answered (`Asks`)
pub asks : {S : Type 0} {Step : S → Request → Reply → S → Type 0} {RunsOut : S → Request → S → Type 0}
    (bytes : List ℕ) (before after : S) (end : End) (sent left_after sent_after : Option (List ℕ)) (faults faults_after : ℕ)
    → Concludes Step bytes sent before end after left_after sent_after
    → (end ≡ ends.Memory → GivesUp Step RunsOut bytes sent faults before after sent_after faults_after) → Asks Step RunsOut bytes before end after
asks bytes before after ends.Closed sent left_after sent_after faults faults_after c memory = by_session bytes before after ends.Closed ends.Closed sent sent_after c
asks bytes before after ends.Asked sent left_after sent_after faults faults_after c memory = by_session bytes before after ends.Asked ends.Asked sent sent_after c
asks bytes before after ends.Limit sent left_after sent_after faults faults_after c memory = by_session bytes before after ends.Limit ends.Limit sent sent_after c
asks bytes before after (ends.Refused status) sent left_after sent_after faults faults_after c memory =
    by_session bytes before after (ends.Refused status) (ends.Refused status) sent sent_after c
asks bytes before after ends.CutOff sent left_after sent_after faults faults_after c memory = by_session bytes before after ends.CutOff ends.CutOff sent sent_after c
asks {S} {Step} {RunsOut} bytes before after ends.ReadFault sent left_after sent_after faults faults_after c memory =
    by_prefix bytes c.read c.rest before after ends.ReadFault c.split (by_either c.serves)
  where
    by_either : Serves Step c.read sent before ends.Closed after sent_after ⊎ Serves Step c.read sent before ends.CutOff after sent_after
        → Asks Step RunsOut c.read before ends.ReadFault after
    by_either (inl serves) = by_session c.read before after ends.ReadFault ends.Closed sent sent_after serves
    by_either (inr serves) = by_session c.read before after ends.ReadFault ends.CutOff sent sent_after serves
asks bytes before after ends.WriteFault sent left_after sent_after faults faults_after (inl c) memory = by_reply bytes before after ends.WriteFault sent sent_after c
asks bytes before after ends.WriteFault sent left_after sent_after faults faults_after (inr c) memory = by_refusal bytes before after ends.WriteFault sent sent_after c
asks bytes before after ends.Memory sent left_after sent_after faults faults_after c memory =
    by_memory bytes before after sent sent_after faults faults_after (memory refl)
