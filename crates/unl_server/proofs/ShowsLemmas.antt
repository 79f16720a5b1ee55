-- What a conversation says about the handler's state carries over to a view of that state.
use Rattle.std.proofs.Common.{◌≡◌, ℕ, List, refl, ap, Option, ◌⊎◌, inl, inr}
use Rattle.unl_http_api.specs.declared.end.End.{End}
use Rattle.unl_http_api.specs.declared.end.End.TheVariants.{Closed, Asked, Limit, Refused, CutOff, ReadFault, WriteFault, Memory}
use Rattle.unl_http_api.specs.declared.reply.Reply.{Reply}
use Rattle.unl_http_api.specs.declared.request.Request.{Request}
use Rattle.unl_server.specs.Conversation.{AreAnswered, AnswersAll, Concludes, Converses, GivesUp, IsUnreplied, Reaches, Serves}
use Rattle.unl_server.specs.Exchange.{Unreplied}
use Rattle.unl_server.specs.Links.{LinkView}

-- `after` is `state`, or the state that follows it if memory ran out before one more request was replied to in full
abbrev pub IsNear :
    {S : Type 0} → (S → Request → Reply → S → Type 0) → (S → Request → S → Type 0) → S → S → Type 0
IsNear Step RunsOut state after = (after ≡ state) ⊎ ((q : Request) × Unreplied Step RunsOut state q after)

-- `view` maps the steps that led from `before` to `after` (`Step`, `RunsOut`) to steps of the views (`Seen`, `Misses`)
pub record Shows
    {S T : Type 0} (Step : S → Request → Reply → S → Type 0) (RunsOut : S → Request → S → Type 0)
    (Seen : T → Request → Reply → T → Type 0) (Misses : T → Request → T → Type 0) (view : S → T)
    (before after : S) : Type 0 where
  pub chain : (state : S) (qs : List Request) (text : List ℕ) → IsNear Step RunsOut state after
      → AreAnswered Step 0 before qs text state → AreAnswered Seen 0 (view before) qs text (view state)
  pub last : (state : S) (q : Request) → Unreplied Step RunsOut state q after → Unreplied Seen Misses (view state) q (view after)
  pub runs_out : (state : S) (q : Request) → RunsOut state q after → Misses (view state) q (view after)

Serves_seen : {S T : Type 0} {Step : S → Request → Reply → S → Type 0} {RunsOut : S → Request → S → Type 0}
    {Seen : T → Request → Reply → T → Type 0} {Misses : T → Request → T → Type 0} {view : S → T} {before after : S}
    (bytes : List ℕ) (sent : Option (List ℕ)) (end : End) (sent_after : Option (List ℕ))
    → Shows Step RunsOut Seen Misses view before after → Serves Step bytes sent before end after sent_after
    → Serves Seen bytes sent (view before) end (view after) sent_after
Serves_seen {after} bytes sent end sent_after shows serves = record {
  requests = serves.requests;
  text = serves.text;
  session = serves.session;
  answered = shows.chain after serves.requests serves.text (inl refl) serves.answered;
  sends = serves.sends;
}

AnswersAll_seen : {S T : Type 0} {Step : S → Request → Reply → S → Type 0} {RunsOut : S → Request → S → Type 0}
    {Seen : T → Request → Reply → T → Type 0} {Misses : T → Request → T → Type 0} {view : S → T} {before after : S}
    (asked : List Request) (sent : Option (List ℕ)) (end : End) (sent_after : Option (List ℕ))
    → Shows Step RunsOut Seen Misses view before after → AnswersAll Step asked sent before end after sent_after
    → AnswersAll Seen asked sent (view before) end (view after) sent_after
AnswersAll_seen {after} asked sent end sent_after shows all = record {
  text = all.text;
  answered = shows.chain after asked all.text (inl refl) all.answered;
  sends = all.sends;
}

either_seen : {P Q A B : Type 0} → (P → A) → (Q → B) → P ⊎ Q → A ⊎ B
either_seen f g (inl p) = inl (f p)
either_seen f g (inr q) = inr (g q)

Concludes_seen : {S T : Type 0} {Step : S → Request → Reply → S → Type 0} {RunsOut : S → Request → S → Type 0}
    {Seen : T → Request → Reply → T → Type 0} {Misses : T → Request → T → Type 0} {view : S → T} {before after : S}
    (bytes : List ℕ) (sent : Option (List ℕ)) (end : End) (left_after sent_after : Option (List ℕ))
    → Shows Step RunsOut Seen Misses view before after → Concludes Step bytes sent before end after left_after sent_after
    → Concludes Seen bytes sent (view before) end (view after) left_after sent_after
Concludes_seen bytes sent Closed left_after sent_after shows serves =
    Serves_seen bytes sent Closed sent_after shows serves
Concludes_seen bytes sent Asked left_after sent_after shows serves =
    Serves_seen bytes sent Asked sent_after shows serves
Concludes_seen bytes sent Limit left_after sent_after shows serves =
    Serves_seen bytes sent Limit sent_after shows serves
Concludes_seen bytes sent (Refused status) left_after sent_after shows serves =
    Serves_seen bytes sent (Refused status) sent_after shows serves
Concludes_seen bytes sent CutOff left_after sent_after shows serves =
    Serves_seen bytes sent CutOff sent_after shows serves
Concludes_seen bytes sent ReadFault left_after sent_after shows prefix = record {
  read = prefix.read;
  rest = prefix.rest;
  split = prefix.split;
  left = prefix.left;
  serves = either_seen
      (λ serves. Serves_seen prefix.read sent Closed sent_after shows serves)
      (λ serves. Serves_seen prefix.read sent CutOff sent_after shows serves)
      prefix.serves;
}
Concludes_seen {after} bytes sent WriteFault left_after sent_after shows (inl cut) = inl (record {
  earlier = cut.earlier;
  request = cut.request;
  rest = cut.rest;
  text = cut.text;
  reads = cut.reads;
  first = cut.first;
  answered = shows.chain after _ cut.text (inl refl) cut.answered;
  sends = cut.sends;
})
Concludes_seen {after} bytes sent WriteFault left_after sent_after shows (inr cut) = inr (record {
  requests = cut.requests;
  status = cut.status;
  text = cut.text;
  session = cut.session;
  answered = shows.chain after cut.requests cut.text (inl refl) cut.answered;
  sends = cut.sends;
})
Concludes_seen bytes sent Memory left_after sent_after shows nothing = tt

near : {S : Type 0} {Step : S → Request → Reply → S → Type 0} {RunsOut : S → Request → S → Type 0} (rest : List ℕ)
    (state after : S) → (after ≡ state) ⊎ IsUnreplied Step RunsOut rest state after → IsNear Step RunsOut state after
near rest state after (inl same) = inl same
near rest state after (inr one) = inr (one.request, one.unreplied)

next_seen : {S T : Type 0} {Step : S → Request → Reply → S → Type 0} {RunsOut : S → Request → S → Type 0}
    {Seen : T → Request → Reply → T → Type 0} {Misses : T → Request → T → Type 0} {view : S → T} {before after : S}
    (rest : List ℕ) (state : S) → Shows Step RunsOut Seen Misses view before after
    → (after ≡ state) ⊎ IsUnreplied Step RunsOut rest state after
    → (view after ≡ view state) ⊎ IsUnreplied Seen Misses rest (view state) (view after)
next_seen {view} rest state shows (inl same) = inl (ap view same)
next_seen rest state shows (inr one) = inr (record {
  request = one.request;
  rest = one.rest;
  begins = one.begins;
  unreplied = shows.last state one.request one.unreplied;
})

GivesUp_seen : {S T : Type 0} {Step : S → Request → Reply → S → Type 0} {RunsOut : S → Request → S → Type 0}
    {Seen : T → Request → Reply → T → Type 0} {Misses : T → Request → T → Type 0} {view : S → T} {before after : S}
    (bytes : List ℕ) (sent : Option (List ℕ)) (faults : ℕ) (sent_after : Option (List ℕ)) (faults_after : ℕ)
    → Shows Step RunsOut Seen Misses view before after
    → GivesUp Step RunsOut bytes sent faults before after sent_after faults_after
    → GivesUp Seen Misses bytes sent faults (view before) (view after) sent_after faults_after
GivesUp_seen {view} {after} bytes sent faults sent_after faults_after shows gives_up = record {
  requests = gives_up.requests;
  rest = gives_up.rest;
  reads = gives_up.reads;
  first = gives_up.first;
  text = gives_up.text;
  replied = view gives_up.replied;
  answered = shows.chain gives_up.replied gives_up.requests gives_up.text
      (near gives_up.rest gives_up.replied after gives_up.next) gives_up.answered;
  next = next_seen gives_up.rest gives_up.replied shows gives_up.next;
  sent_before = gives_up.sent_before;
  sends = gives_up.sends;
  sent_500 = gives_up.sent_500;
}

-- ---- in every case

near_reached : {S : Type 0} (Step : S → Request → Reply → S → Type 0) (RunsOut : S → Request → S → Type 0) (reached after : S) (end : End)
    → (after ≡ reached) ⊎ ((end ≡ Memory) × (request : Request) × RunsOut reached request after) → IsNear Step RunsOut reached after
near_reached Step RunsOut reached after end (inl same) = inl same
near_reached Step RunsOut reached after end (inr (is, request, lacks)) = inr (request, inl lacks)

reached_seen : {S T : Type 0} {Step : S → Request → Reply → S → Type 0} {RunsOut : S → Request → S → Type 0}
    {Seen : T → Request → Reply → T → Type 0} {Misses : T → Request → T → Type 0} {view : S → T} {before after : S}
    (reached : S) (end : End) → Shows Step RunsOut Seen Misses view before after
    → (after ≡ reached) ⊎ ((end ≡ Memory) × (request : Request) × RunsOut reached request after)
    → (view after ≡ view reached) ⊎ ((end ≡ Memory) × (request : Request) × Misses (view reached) request (view after))
reached_seen {view} reached end shows (inl same) = inl (ap view same)
reached_seen reached end shows (inr (is, request, lacks)) = inr (is, request, shows.runs_out reached request lacks)

Reaches_seen : {S T : Type 0} {Step : S → Request → Reply → S → Type 0} {RunsOut : S → Request → S → Type 0}
    {Seen : T → Request → Reply → T → Type 0} {Misses : T → Request → T → Type 0} {view : S → T} {before after : S}
    (end : End) (count : ℕ) → Shows Step RunsOut Seen Misses view before after → Reaches Step RunsOut before end after count
    → Reaches Seen Misses (view before) end (view after) count
Reaches_seen {Step} {RunsOut} {view} {after} end count shows reaches = record {
  requests = reaches.requests;
  text = reaches.text;
  reached = view reaches.reached;
  answered = shows.chain reaches.reached reaches.requests reaches.text (near_reached Step RunsOut reaches.reached after end reaches.next) reaches.answered;
  counted = reaches.counted;
  next = reached_seen reaches.reached end shows reaches.next;
}

-- if `Converses` holds for the states, it holds for their views
pub Converses_seen : {S T : Type 0} {Step : S → Request → Reply → S → Type 0} {RunsOut : S → Request → S → Type 0}
    {Seen : T → Request → Reply → T → Type 0} {Misses : T → Request → T → Type 0} {view : S → T} {before after : S}
    (link : LinkView) (end : End) (count : ℕ) (link_after : LinkView) → Shows Step RunsOut Seen Misses view before after
    → Converses Step RunsOut link before end after count link_after
    → Converses Seen Misses link (view before) end (view after) count link_after
Converses_seen link end count link_after shows said = record {
  session = λ bytes known. Concludes_seen bytes link.sent end link_after.left link_after.sent shows (said.session bytes known);
  complete = λ bytes asked ending known session none some.
      let all = said.complete bytes asked ending known session none some in
      (all.0, AnswersAll_seen asked link.sent ending link_after.sent shows all.1);
  whole = λ bytes asked known whole none some.
      let all = said.whole bytes asked known whole none some in
      (all.0, AnswersAll_seen asked link.sent end link_after.sent shows all.1);
  memory = λ bytes known is. GivesUp_seen bytes link.sent link.faults link_after.sent link_after.faults shows (said.memory bytes known is);
  answered = Reaches_seen end count shows said.answered;
  later = said.later;
  read_cause = said.read_cause;
  write_cause = said.write_cause;
}
