-- Lemmas about one turn of a connection: what was sent, and how the turn ended.
use Rattle.std.proofs.Common.{◌≡◌, ℕ, Bool, ◌||◌, List, ◌++◌, refl, sym, subst, Option, Some, None, inl, inr}
use Rattle.unl_base.specs.Streams.{Takes, Sends, SendsPrefix}
use Rattle.unl_http_api.specs.declared.end.End.{End}
use Rattle.unl_http_api.specs.declared.end.End.TheVariants.{Closed, Asked, Limit, Refused, CutOff, ReadFault, WriteFault, Memory}
use Rattle.unl_http_api.specs.declared.reply.Reply.{Reply}
use Rattle.unl_http_api.specs.declared.request.Request.{Request}
use Rattle.unl_http_api.specs.Requests.{BeginsWith, IsBad}
use Rattle.unl_http_api.specs.Reply.{reply_text, refusal_text}
use Rattle.unl_server.specs.declared.receive.Received.TheVariants.{Request as Whole, Bad}
use Rattle.unl_server.specs.Exchange.{ConnectionState, ServesTurn, Writes, Replies, Replied, SendsRefusal}
use Rattle.unl_server.specs.Receive.{Receives}

-- refused bytes end the connection, by `Refused` if the refusal was sent
pub turn_refused : {S : Type 0} (Step : S → Request → Reply → S → Type 0) (RunsOut : S → Request → S → Type 0) (last : Bool)
    (old new : ConnectionState S) (status : ℕ) (end : End) (held : List ℕ) (left sent : Option (List ℕ))
    → Receives old.held old.left (Bad status) held left → new.left ≡ left → new.state ≡ old.state → sent ≡ old.sent
    → SendsRefusal status sent end new.sent → ServesTurn Step RunsOut last old (Some end) new
turn_refused Step RunsOut last old new status (Refused reported) held left sent receives same same_state unsent refuses = record {
  read = receives.read;
  took = subst (λ (l : Option (List ℕ)). Takes old.left receives.read l) (sym same) receives.took;
  found = subst (IsBad (old.held ++ receives.read)) (sym refuses.0) receives.next.0;
  same = same_state;
  sends =
      subst (λ (before : Option (List ℕ)). Sends before (refusal_text reported) new.sent) unsent
      (subst (λ (s : ℕ). Sends sent (refusal_text s) new.sent) (sym refuses.0) refuses.1);
}
turn_refused Step RunsOut last old new status WriteFault held left sent receives same same_state unsent refuses = inr (
  status,
  record {
    read = receives.read;
    took = subst (λ (l : Option (List ℕ)). Takes old.left receives.read l) (sym same) receives.took;
    found = receives.next.0;
    same = same_state;
    sends = subst (λ (before : Option (List ℕ)). SendsPrefix before (refusal_text status) new.sent) unsent refuses;
  },
)
turn_refused Step RunsOut last old new status Memory held left sent receives same same_state unsent refuses = inl same_state
turn_refused Step RunsOut last old new status ReadFault held left sent receives same same_state unsent refuses = absurd refuses
turn_refused Step RunsOut last old new status Closed held left sent receives same same_state unsent refuses = absurd refuses
turn_refused Step RunsOut last old new status Asked held left sent receives same same_state unsent refuses = absurd refuses
turn_refused Step RunsOut last old new status Limit held left sent receives same same_state unsent refuses = absurd refuses
turn_refused Step RunsOut last old new status CutOff held left sent receives same same_state unsent refuses = absurd refuses

-- if the text of a refusal was not sent in full (`Writes` with this end), the effect is `SendsRefusal` with the same end
pub refused_end : (status : ℕ) (sent sent_after : Option (List ℕ)) (text : List ℕ) (end : End) → text ≡ refusal_text status
    → Writes text sent (Some end) sent_after → SendsRefusal status sent end sent_after
refused_end status sent sent_after text WriteFault is writes =
    subst (λ (t : List ℕ). SendsPrefix sent t sent_after) is writes
refused_end status sent sent_after text Memory is writes = tt
refused_end status sent sent_after text (Refused reported) is writes = absurd writes
refused_end status sent sent_after text ReadFault is writes = absurd writes
refused_end status sent sent_after text Closed is writes = absurd writes
refused_end status sent sent_after text Asked is writes = absurd writes
refused_end status sent sent_after text Limit is writes = absurd writes
refused_end status sent sent_after text CutOff is writes = absurd writes

-- the effect of the turn if a reply was not sent in full
pub turn_cut : {S : Type 0} (Step : S → Request → Reply → S → Type 0) (RunsOut : S → Request → S → Type 0)
    (last close : Bool) (old new : ConnectionState S) (request : Request) (end : End) (held : List ℕ)
    (left sent : Option (List ℕ)) → Receives old.held old.left (Whole request) held left → new.left ≡ left
    → new.held ≡ held → sent ≡ old.sent → close ≡ (request.close || last)
    → Replied Step RunsOut request close old.state new.state sent (Some end) new.sent
    → ServesTurn Step RunsOut last old (Some end) new
turn_cut Step RunsOut last close old new request WriteFault held left sent receives same same_held unsent is replied = inl (
  request.close,
  record {
    request = request;
    read = receives.read;
    took = subst (λ (l : Option (List ℕ)). Takes old.left receives.read l) (sym same) receives.took;
    begins = subst (BeginsWith (old.held ++ receives.read) request) (sym same_held) receives.next;
    closes = refl;
    replies = subst
        (λ (before : Option (List ℕ)). Replies SendsPrefix Step request (request.close || last) old.state new.state before new.sent)
        unsent
        (subst (λ (c : Bool). Replies SendsPrefix Step request c old.state new.state sent new.sent) is replied);
  },
)
turn_cut Step RunsOut last close old new request Memory held left sent receives same same_held unsent is replied = inr (record {
  request = request;
  read = receives.read;
  took = subst (λ (l : Option (List ℕ)). Takes old.left receives.read l) (sym same) receives.took;
  begins = subst (BeginsWith (old.held ++ receives.read) request) (sym same_held) receives.next;
  unreplied = replied;
})
turn_cut Step RunsOut last close old new request (Refused reported) held left sent receives same same_held unsent is replied = absurd replied
turn_cut Step RunsOut last close old new request ReadFault held left sent receives same same_held unsent is replied = absurd replied
turn_cut Step RunsOut last close old new request Closed held left sent receives same same_held unsent is replied = absurd replied
turn_cut Step RunsOut last close old new request Asked held left sent receives same same_held unsent is replied = absurd replied
turn_cut Step RunsOut last close old new request Limit held left sent receives same same_held unsent is replied = absurd replied
turn_cut Step RunsOut last close old new request CutOff held left sent receives same same_held unsent is replied = absurd replied

-- if the handler answered and its reply was sent as `Writes` says, the effect is `Replied`
pub replied_so : {S : Type 0} (Step : S → Request → Reply → S → Type 0) (RunsOut : S → Request → S → Type 0)
    (request : Request) (close : Bool) (before after : S) (reply : Reply) (sent : Option (List ℕ)) (end : Option End)
    (sent_after : Option (List ℕ)) → Step before request reply after → Writes (reply_text reply close) sent end sent_after
    → Replied Step RunsOut request close before after sent end sent_after
replied_so Step RunsOut request close before after reply sent None sent_after step writes =
    record { reply = reply; steps = step; sends = writes }
replied_so Step RunsOut request close before after reply sent (Some WriteFault) sent_after step writes =
    record { reply = reply; steps = step; sends = writes }
replied_so Step RunsOut request close before after reply sent (Some Memory) sent_after step writes = inr (reply, step)
replied_so Step RunsOut request close before after reply sent (Some (Refused reported)) sent_after step writes = absurd writes
replied_so Step RunsOut request close before after reply sent (Some ReadFault) sent_after step writes = absurd writes
replied_so Step RunsOut request close before after reply sent (Some Closed) sent_after step writes = absurd writes
replied_so Step RunsOut request close before after reply sent (Some Asked) sent_after step writes = absurd writes
replied_so Step RunsOut request close before after reply sent (Some Limit) sent_after step writes = absurd writes
replied_so Step RunsOut request close before after reply sent (Some CutOff) sent_after step writes = absurd writes
