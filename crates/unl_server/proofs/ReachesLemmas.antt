-- Lemmas about a conversation: its effect if memory runs out, and the number of its answered requests.
use Rattle.std.proofs.Common.{◌≡◌, ℕ, ◌+◌, ◌<◌, ◌≤◌, Bool, ◌||◌, List, [], ◌∷◌, ◌++◌, length, refl, sym, ap, ◌∙◌, subst, arith, append_assoc, length-append, Option, Some, ◌⊎◌, inl, inr}
use Rattle.std.specs.Prelude.{◌==◌}
use Rattle.unl_base.specs.declared.draws.Draw.{Draw}
use Rattle.unl_base.specs.Faults.{Rose}
use Rattle.unl_base.specs.Streams.{Takes}
use Rattle.unl_http_api.specs.declared.end.End.{End}
use Rattle.unl_http_api.specs.declared.end.End.TheVariants.{Closed, Asked, Limit, Refused, CutOff, ReadFault, WriteFault, Memory}
use Rattle.unl_http_api.specs.declared.reply.Reply.{Reply}
use Rattle.unl_http_api.specs.declared.request.Request.{Request}
use Rattle.unl_http_api.specs.Reply.{reply_text}
use Rattle.unl_http_api.specs.Requests.{BeginsWith}
use Rattle.unl_http_api.specs.Session.{ReadsRequests, StayOpen}
use Rattle.unl_http_api.proofs.RequestLemmas.{BeginsWith-append}
use Rattle.unl_http_api.proofs.SessionLemmas.{Reads-append}
use Rattle.unl_server.specs.Handling.{HandlesRequest, RunsOutOfMemory}
use Rattle.unl_server.specs.Conversation.{IsUnreplied, GivesUp, Reaches}
use Rattle.unl_server.specs.Exchange.{ConnectionState, Unreplied, Breaks, ServesTurn, Sends500}
use Rattle.unl_server.proofs.ConversationLemmas.{Answered_more, Takes_known, Talk}

-- ---- out of memory

-- if a request was read and not replied to in full (`Breaks`), the bytes held and the bytes left before the turn begin with it
breaks_known : {S : Type 0} (Step : S → Request → Reply → S → Type 0) (RunsOut : S → Request → S → Type 0)
    (now new : ConnectionState S) (rest : List ℕ) → now.left ≡ Some rest → Breaks Step RunsOut now new
    → IsUnreplied Step RunsOut (now.held ++ rest) now.state new.state
breaks_known Step RunsOut now new rest left broken =
    let prefix = Takes_known rest broken.read new.left
    (subst (λ (l : Option (List ℕ)). Takes l broken.read new.left) left broken.took) in
    record {
      request = broken.request;
      rest = new.held ++ prefix.0;
      begins = subst (λ (b : List ℕ). BeginsWith b broken.request (new.held ++ prefix.0))
          (append_assoc now.held broken.read prefix.0 ∙ ap (λ (b : List ℕ). now.held ++ b) (sym prefix.2))
          (BeginsWith-append (now.held ++ broken.read) broken.request new.held prefix.0 broken.begins);
      unreplied = broken.unreplied;
    }

-- the state after a turn in which memory ran out
next_known : {S : Type 0} (Step : S → Request → Reply → S → Type 0) (RunsOut : S → Request → S → Type 0)
    (now new : ConnectionState S) (rest : List ℕ) → now.left ≡ Some rest
    → (new.state ≡ now.state) ⊎ Breaks Step RunsOut now new
    → (new.state ≡ now.state) ⊎ IsUnreplied Step RunsOut (now.held ++ rest) now.state new.state
next_known Step RunsOut now new rest left (inl same) = inl same
next_known Step RunsOut now new rest left (inr broken) = inr (breaks_known Step RunsOut now new rest left broken)

-- a statement holds, or the fault count rose: if it rose from a later value, it rose from an earlier one
rose_earlier : {P : Type 0} (a b c : ℕ) → a ≤ b → P ⊎ Rose b c → P ⊎ Rose a c
rose_earlier a b c up (inl p) = inl p
rose_earlier a b c up (inr rose) = inr (omega (arith, up, rose))

-- if memory ran out in the turn after these requests, the connection ended as `GivesUp` says
pub gives_up : {S : Type 0} (Step : S → Request → Reply → S → Type 0) (RunsOut : S → Request → S → Type 0)
    (start now new : ConnectionState S) (requests : List Request) (last : Bool) (bytes : List ℕ) (end : End)
    (faults between faults_after : ℕ) → Talk Step start now requests → StayOpen requests → length requests < 1000
    → start.left ≡ Some bytes → end ≡ Memory → ServesTurn Step RunsOut last now (Some end) new → faults ≤ between
    → Sends500 now.sent between new.sent faults_after
    → GivesUp Step RunsOut bytes start.sent faults start.state new.state new.sent faults_after
gives_up Step RunsOut start now new requests last bytes end faults between faults_after talk stay few known is turn later sends_500 =
    let prefix = Takes_known bytes talk.read now.left
    (subst (λ (l : Option (List ℕ)). Takes l talk.read now.left) known talk.took) in
    record {
      requests = requests;
      rest = now.held ++ prefix.0;
      reads = subst (λ (b : List ℕ). ReadsRequests b requests (now.held ++ prefix.0)) (sym prefix.2)
          (Reads-append talk.read requests now.held prefix.0 talk.reads);
      first = record { few = few; open_all = stay };
      text = talk.text;
      replied = now.state;
      answered = talk.answered;
      next = next_known Step RunsOut now new prefix.0 prefix.1
          (subst (λ (e : End). ServesTurn Step RunsOut last now (Some e) new) is turn);
      sent_before = now.sent;
      sends = talk.sends;
      sent_500 = record {
        part = sends_500.part;
        after = sends_500.after;
        split = sends_500.split;
        sends = sends_500.sends;
        whole = rose_earlier faults between faults_after later sends_500.whole;
      };
    }

-- ---- the answered requests, whether or not the bytes are observable

-- `count` is a number in a state that each step increments, and that running out of memory leaves unchanged
pub record Counts
    {S : Type 0} (Step : S → Request → Reply → S → Type 0) (RunsOut : S → Request → S → Type 0) (count : S → ℕ) : Type 0 where
  pub step : (s t : S) (q : Request) (r : Reply) → Step s q r t → count t ≡ count s + 1
  pub runs_out : (s t : S) (q : Request) → RunsOut s q t → count t ≡ count s

-- the number of answered requests in `HandlerState` is such a count
pub Answers_count : {S : Type 0} (gives : S → Request → Draw → Reply → S → Type 0) (out_of_memory : S → Request → Draw → S → Type 0)
    → Counts (HandlesRequest gives) (RunsOutOfMemory out_of_memory) (λ s. s.count)
Answers_count gives out_of_memory = record {
  step = λ s t q r one. one.counted;
  runs_out = λ s t q none. none.counted;
}

-- one more request was answered in the last turn
reaches_more : {S : Type 0} (Step : S → Request → Reply → S → Type 0) (RunsOut : S → Request → S → Type 0) (count : S → ℕ)
    → Counts Step RunsOut count → (start now : ConnectionState S) (after : S) (requests : List Request) (end : End)
    (request : Request) (reply : Reply) → Talk Step start now requests → length requests ≡ count now.state
    → Step now.state request reply after → Reaches Step RunsOut start.state end after (count after)
reaches_more Step RunsOut count counts start now after requests end request reply talk counted step = record {
  requests = requests ++ request ∷ [];
  text = talk.text ++ reply_text reply (request.close || length requests == 999);
  reached = after;
  answered = Answered_more Step 0 start.state now.state after requests talk.text request reply (length requests == 999)
      talk.answered step (ap (λ (n : ℕ). n == 999) (omega arith));
  counted = omega (arith, counted, counts.step now.state after request reply step, length-append requests (request ∷ []));
  next = inl refl;
}

-- if the last turn left the handler's state unchanged, `requests` are all that were answered
pub reaches_same : {S : Type 0} (Step : S → Request → Reply → S → Type 0) (RunsOut : S → Request → S → Type 0)
    (count : S → ℕ) (start now : ConnectionState S) (after : S) (requests : List Request) (end : End)
    → Talk Step start now requests → length requests ≡ count now.state → after ≡ now.state
    → Reaches Step RunsOut start.state end after (count after)
reaches_same Step RunsOut count start now after requests end talk counted same = record {
  requests = requests;
  text = talk.text;
  reached = now.state;
  answered = talk.answered;
  counted = counted ∙ ap count (sym same);
  next = inl same;
}

-- the last request was read, and memory ran out while it was answered or afterwards
reaches_running_out : {S : Type 0} (Step : S → Request → Reply → S → Type 0) (RunsOut : S → Request → S → Type 0)
    (count : S → ℕ) → Counts Step RunsOut count → (start now : ConnectionState S) (after : S) (requests : List Request)
    (request : Request) → Talk Step start now requests → length requests ≡ count now.state
    → Unreplied Step RunsOut now.state request after → Reaches Step RunsOut start.state Memory after (count after)
reaches_running_out Step RunsOut count counts start now after requests request talk counted (inl lacks) = record {
  requests = requests;
  text = talk.text;
  reached = now.state;
  answered = talk.answered;
  counted = counted ∙ sym (counts.runs_out now.state after request lacks);
  next = inr (refl, request, lacks);
}
reaches_running_out Step RunsOut count counts start now after requests request talk counted (inr (reply, step)) =
    reaches_more Step RunsOut count counts start now after requests Memory request reply talk counted step

-- as many requests were answered as were counted, however the last turn ended
pub reaches : {S : Type 0} (Step : S → Request → Reply → S → Type 0) (RunsOut : S → Request → S → Type 0)
    (count : S → ℕ) → Counts Step RunsOut count → (start now new : ConnectionState S) (requests : List Request) (last : Bool)
    (end : End) → Talk Step start now requests → length requests ≡ count now.state
    → ServesTurn Step RunsOut last now (Some end) new → Reaches Step RunsOut start.state end new.state (count new.state)
reaches Step RunsOut count counts start now new requests last Asked talk counted turn =
    reaches_more Step RunsOut count counts start now new.state requests Asked turn.request turn.replies.reply talk counted
    turn.replies.steps
reaches Step RunsOut count counts start now new requests last Closed talk counted stop =
    reaches_same Step RunsOut count start now new.state requests Closed talk counted stop.same
reaches Step RunsOut count counts start now new requests last CutOff talk counted stop =
    reaches_same Step RunsOut count start now new.state requests CutOff talk counted stop.same
reaches Step RunsOut count counts start now new requests last (Refused status) talk counted stop =
    reaches_same Step RunsOut count start now new.state requests (Refused status) talk counted stop.same
reaches Step RunsOut count counts start now new requests last Limit talk counted turn = absurd turn
reaches Step RunsOut count counts start now new requests last ReadFault talk counted stop =
    reaches_same Step RunsOut count start now new.state requests ReadFault talk counted stop.same
reaches Step RunsOut count counts start now new requests last WriteFault talk counted (inl (close, turn)) =
    reaches_more Step RunsOut count counts start now new.state requests WriteFault turn.request turn.replies.reply talk
    counted turn.replies.steps
reaches Step RunsOut count counts start now new requests last WriteFault talk counted (inr (status, stop)) =
    reaches_same Step RunsOut count start now new.state requests WriteFault talk counted stop.same
reaches Step RunsOut count counts start now new requests last Memory talk counted (inl same) =
    reaches_same Step RunsOut count start now new.state requests Memory talk counted same
reaches Step RunsOut count counts start now new requests last Memory talk counted (inr broken) =
    reaches_running_out Step RunsOut count counts start now new.state requests broken.request talk counted broken.unreplied
