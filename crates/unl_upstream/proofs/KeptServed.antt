-- The commands of the answered requests of a connection, and how they are kept.
use Rattle.std.proofs.Common.{◌≡◌, ◌≢◌, ℕ, ◌+◌, ◌⊎◌, inl, inr, List, [], ◌∷◌, ◌++◌, Option, Some, None, Result, Ok, Err, IfOk, OnErr, refl, sym, ap, ◌∙◌, subst, arith}
use Rattle.unl_base.specs.declared.draws.Draw.{Draw}
use Rattle.unl_server.specs.Handling.{HandlerState, HandlesRequest, RunsOutOfMemory}
use Rattle.unl_server.specs.Conversation.{AreAnswered, Reaches}
use Rattle.unl_server.specs.Exchange.{Unreplied}
use Rattle.unl_server.proofs.ShowsLemmas.{Shows}
use Rattle.unl_http_api.specs.declared.end.End.{End}
use Rattle.unl_http_api.specs.declared.end.End.TheVariants as ends
use Rattle.unl_http_api.specs.declared.reply.Reply.{Reply}
use Rattle.unl_http_api.specs.declared.request.Request.{Request}
use Rattle.http.specs.StatusCode.{IsStatusCode}
use Rattle.unl_keeper.specs.declared.refusal.KeepRefusal.TheVariants as fault
use Rattle.unl_documents.specs.declared.memory.Memory.{Memory as Failure}
use Rattle.unl_upstream.specs.declared.command.Command.{Command}
use Rattle.unl_upstream.specs.declared.command_or_reply.CommandOrReply.TheVariants as variant
use Rattle.unl_upstream.specs.declared.refusal.KeepCommandRefusal.{KeepCommandRefusal}
use Rattle.unl_upstream.specs.declared.refusal.KeepCommandRefusal.TheVariants.{KeeperFault, Memory}
use Rattle.unl_upstream.specs.Answer.{done, numbered, command_or_reply_of, refused, upstream_answer}
use Rattle.unl_keeper.specs.State.{HasKept}
use Rattle.unl_upstream.specs.Kept.{AttemptsInOrder, IsPending, KeptState, Puts, KeepAttempt, faults_among, keepable}
use Rattle.unl_upstream.specs.KeptServing.{CarriesAnswer, AnswersByKeeping, KeptStateUnchanged, ServesKept, KeptServing, KeptServingRunsOut, NoKeeperFault, RepliesTo, ServesKeptRequest, RepliesByCommand, tried_in, tried_of}
use Rattle.unl_upstream.specs.Requests.{command_given}
use Rattle.unl_upstream.specs.Upstream.{Prepared}
use Rattle.unl_upstream.proofs.Constructors.{err_same, ok_is_no_err}
use Rattle.unl_upstream.proofs.Given.{command_of_request, command_within}
use Rattle.unl_upstream.proofs.Carrying.{carries_all, faults_both, keeps_by_put, refuses}
use Rattle.unl_upstream.proofs.Statuses.{answered_without_fault, answered_status, kept_without_fault, kept_status}

-- ---- from the handler's parts to its model

-- one answer, by a handler whose model is what `seen` returns for its state
abbrev pub AnswersOver : {S : Type 0} → (S → KeptState) → HandlerState S → Request → Reply → HandlerState S → Type 0
AnswersOver seen = HandlesRequest (λ state request draw reply after. AnswersByKeeping (seen state) request draw reply (seen after))

-- memory ran out at a request, for such a handler
abbrev pub RunsOutOver : {S : Type 0} → (S → KeptState) → HandlerState S → Request → HandlerState S → Type 0
RunsOutOver seen = RunsOutOfMemory (λ state request draw after. KeptStateUnchanged (seen state) request draw (seen after))

-- the model of such a handler: an upstream with its keeper
abbrev pub serving_seen : {S : Type 0} → (S → KeptState) → HandlerState S → KeptServing
serving_seen seen s = record { state = seen s.state; count = s.count; coming = s.coming }

one_seen : {S : Type 0} (seen : S → KeptState) (before after : HandlerState S) (q : Request) (reply : Reply) → AnswersOver seen before q reply after
    → ServesKeptRequest (serving_seen seen before) q reply (serving_seen seen after)
one_seen seen before after q reply step = record { draw = step.draw; taken = step.taken; given = step.given; counted = step.counted }

chain_seen : {S : Type 0} (seen : S → KeptState) (count : ℕ) (before after : HandlerState S) (qs : List Request) (text : List ℕ)
    → AreAnswered (AnswersOver seen) count before qs text after → AreAnswered ServesKeptRequest count (serving_seen seen before) qs text (serving_seen seen after)
chain_seen seen count before after [] text answered = (answered.0, ap (serving_seen seen) answered.1)
chain_seen seen count before after (q ∷ qs) text (reply, middle, more, step, split, rest) =
    (reply, serving_seen seen middle, more, one_seen seen before middle q reply step, split, chain_seen seen (count + 1) middle after qs more rest)

runs_out_seen : {S : Type 0} (seen : S → KeptState) (state after : HandlerState S) (q : Request) → RunsOutOver seen state q after
    → KeptServingRunsOut (serving_seen seen state) q (serving_seen seen after)
runs_out_seen seen state after q lacks = record { draw = lacks.draw; taken = lacks.taken; ran_out = lacks.ran_out; counted = lacks.counted }

last_seen : {S : Type 0} (seen : S → KeptState) (state after : HandlerState S) (q : Request) → Unreplied (AnswersOver seen) (RunsOutOver seen) state q after
    → Unreplied ServesKeptRequest KeptServingRunsOut (serving_seen seen state) q (serving_seen seen after)
last_seen seen state after q (inl lacks) = inl (runs_out_seen seen state after q lacks)
last_seen seen state after q (inr (reply, step)) = inr (reply, one_seen seen state after q reply step)

pub shows : {S : Type 0} (seen : S → KeptState) (before after : HandlerState S) → Shows (AnswersOver seen) (RunsOutOver seen) ServesKeptRequest KeptServingRunsOut (serving_seen seen) before after
shows seen before after = record {
  chain = λ state qs text near answered. chain_seen seen 0 before state qs text answered;
  last = λ state q unreplied. last_seen seen state after q unreplied;
  runs_out = λ state q lacks. runs_out_seen seen state after q lacks;
}

-- ---- the kept commands

-- the attempts of one request come before those of the others
keeps_first : (given : Option Command) (before middle after : KeptState) (q : Request) (draw : Draw) (reply : Reply) (others : List KeepAttempt)
    → (by_command : RepliesByCommand given before q draw reply middle) → AttemptsInOrder others middle after
    → AttemptsInOrder (tried_of given before q draw reply middle by_command ++ others) before after
keeps_first None before middle after q draw reply others by_command more = subst (λ (s : KeptState). AttemptsInOrder others s after) by_command.0 more
keeps_first (Some command) before middle after q draw reply others by_command more = (middle, by_command.keeps, more)

pub keeps_in : (count : ℕ) (qs : List Request) (text : List ℕ) (before after : KeptServing) (answered : AreAnswered ServesKeptRequest count before qs text after)
    → AttemptsInOrder (tried_in count before qs text after answered) before.state after.state
keeps_in count [] text before after answered = ap (λ (s : KeptServing). s.state) answered.1
keeps_in count (q ∷ qs) text before after (reply, middle, more, step, split, rest) =
    keeps_first (command_given before.state.up.secret q) before.state middle.state after.state q step.draw reply (tried_in (count + 1) middle qs more after rest)
    step.given (keeps_in (count + 1) qs more middle after rest)

-- a reply is 503 `KeeperFault` only if the keeper failed at the command of its request
replies_without_fault : (given : Option Command) (before after : KeptState) (q : Request) (draw : Draw) (reply : Reply) (by_command : RepliesByCommand given before q draw reply after)
    → faults_among (tried_of given before q draw reply after by_command) ≡ 0 → reply ≢ refused KeeperFault
replies_without_fault None before after q draw reply by_command none = answered_without_fault reply before.up before.up q draw by_command.1
replies_without_fault (Some command) before after q draw reply by_command none = λ is. kept_without_fault by_command.result (omega (arith, none)) (sym by_command.is ∙ is)

-- if the keeper failed at none of the commands of these requests, no reply is 503 `KeeperFault`
pub without_fault_in : (count : ℕ) (qs : List Request) (text : List ℕ) (before after : KeptServing) (answered : AreAnswered ServesKeptRequest count before qs text after)
    → faults_among (tried_in count before qs text after answered) ≡ 0 → NoKeeperFault count before qs text after answered
without_fault_in count [] text before after answered none = tt
without_fault_in count (q ∷ qs) text before after (reply, middle, more, step, split, rest) none =
    let given : Option Command = command_given before.state.up.secret q in
    let first : List KeepAttempt = tried_of given before.state q step.draw reply middle.state step.given in
    let others : List KeepAttempt = tried_in (count + 1) middle qs more after rest in
    let both : faults_among (first ++ others) ≡ faults_among first + faults_among others = faults_both first others in (
      replies_without_fault given before.state middle.state q step.draw reply step.given (omega (arith, none, both)),
      without_fault_in (count + 1) qs more middle after rest (omega (arith, none, both)),
    )

-- `count` requests were answered, and nothing but attempts to keep their commands changed the upstream and its keeper
pub keeps_on : (before after : KeptServing) (end : End) (count : ℕ) → HasKept before.state.keeper → Reaches ServesKeptRequest KeptServingRunsOut before end after count
    → ServesKept before end count after
keeps_on before after end count has reaches =
    let tried : List KeepAttempt = tried_in 0 before reaches.requests reaches.text reaches.reached reaches.answered in
    let all : AttemptsInOrder tried before.state reaches.reached.state = keeps_in 0 reaches.requests reaches.text before reaches.reached reaches.answered in
    let keeps : AttemptsInOrder tried before.state after.state = subst (AttemptsInOrder tried before.state) (sym (by_next reaches.next)) all in record {
      reaches = reaches;
      tried = tried;
      are = refl;
      keeps = keeps;
      carries = carries_all tried before.state after.state has keeps;
      no_faults = without_fault_in 0 reaches.requests reaches.text before reaches.reached reaches.answered;
    }
  where
    by_next : (after ≡ reaches.reached) ⊎ ((end ≡ ends.Memory) × (request : Request) × KeptServingRunsOut reaches.reached request after) → after.state ≡ reaches.reached.state
    by_next (inl same) = ap (λ (s : KeptServing). s.state) same
    by_next (inr lacks) = lacks.2.ran_out

-- ---- one reply

-- a fault of the keeper differs from running out of memory
no_other_failure : ◌≢◌ {A = Result ℕ KeepCommandRefusal} (Err KeeperFault) (Err Memory)
no_other_failure is = cc

-- if a command's text was stored and the reply has the new version number, `RepliesTo` holds
pub replies_kept : (command : Command) (before after : KeptState) (ready : Prepared) (text : List ℕ) (number made : ℕ) (reply : Reply)
    → IsPending command before ready text → made ≡ ready.number → reply ≡ numbered made → Puts ready text before (Ok number) after
    → RepliesTo command before reply after
replies_kept command before after ready text number made reply pending counted is puts = record {
  result = Ok number;
  keeps = keeps_by_put command before after ready text (Ok number) pending puts;
  found = ok_is_no_err number Memory;
  is = is ∙ ap numbered (counted ∙ sym puts.is);
}

-- if the keeper failed at a command and the reply is 503 `KeeperFault`, `RepliesTo` holds
pub replies_failed : (command : Command) (before after : KeptState) (ready : Prepared) (text : List ℕ) (reply : Reply)
    → IsPending command before ready text → reply ≡ refused KeeperFault → Puts ready text before (Err fault.Fault) after
    → RepliesTo command before reply after
replies_failed command before after ready text reply pending is puts = record {
  result = Err KeeperFault;
  keeps = keeps_by_put command before after ready text (Err fault.Fault) pending puts;
  found = no_other_failure;
  is = is;
}

-- if a command was refused and the reply is the one for the refusal, `RepliesTo` holds, and nothing changed
pub replies_refused : (command : Command) (state : KeptState) (refusal : KeepCommandRefusal) (r : Result Reply Failure)
    → IfOk r (λ reply. reply ≡ refused refusal) → refusal ≢ Memory → (refusal ≢ Memory → keepable command state ≡ Err refusal)
    → IfOk r (λ reply. RepliesTo command state reply state)
replies_refused command state refusal (Err failure) is other because = tt
replies_refused command state refusal (Ok reply) is other because = record {
  result = Err refusal;
  keeps = refuses command state refusal because;
  found = λ failure. other (err_same refusal Memory failure);
  is = is;
}

-- on an error, an unchanged value equals itself
pub same_still : {T E A : Type 0} (r : Result T E) (x : A) → OnErr r (x ≡ x)
same_still (Ok y) x = tt
same_still (Err e) x = refl

-- ---- one answer

-- if `command_or_reply_of` has a reply for a request, and no command, the request is answered with this reply
pub replies_without_command : (before : KeptState) (q : Request) (draw : Draw) (reply : Reply) → command_or_reply_of before.up q draw ≡ variant.Reply reply → AnswersByKeeping before q draw reply before
unfolding upstream_answer
replies_without_command before q draw reply is =
    let given : None ≡ command_given before.up.secret q = sym (ap command_within is) ∙ command_of_request before.up q draw in
    subst (λ (o : Option Command). RepliesByCommand o before q draw reply before) given (refl, ap (done before.up) is)

pub replies_with_command : (before after : KeptState) (q : Request) (draw : Draw) (reply : Reply) (command : Command) → command_or_reply_of before.up q draw ≡ variant.Execute command
    → RepliesTo command before reply after → AnswersByKeeping before q draw reply after
replies_with_command before after q draw reply command is replies =
    let given : Some command ≡ command_given before.up.secret q = sym (ap command_within is) ∙ command_of_request before.up q draw in
    subst (λ (o : Option Command). RepliesByCommand o before q draw reply after) given replies

-- the attempt of one answered request, if it gives a command, leads from the state before it to the state after it
keeps_given : (given : Option Command) (before after : KeptState) (q : Request) (draw : Draw) (reply : Reply) → (by_command : RepliesByCommand given before q draw reply after)
    → AttemptsInOrder (tried_of given before q draw reply after by_command) before after
keeps_given None before after q draw reply by_command = by_command.0
keeps_given (Some command) before after q draw reply by_command = (after, by_command.keeps, refl)

pub carries_answer : (before after : KeptState) (q : Request) (draw : Draw) (reply : Reply) → HasKept before.keeper → AnswersByKeeping before q draw reply after
    → CarriesAnswer before q draw reply after
carries_answer before after q draw reply has gives =
    let given : Option Command = command_given before.up.secret q in
    let tried : List KeepAttempt = tried_of given before q draw reply after gives in record {
      gives = gives;
      tried = tried;
      are = refl;
      carries = carries_all tried before after has (keeps_given given before after q draw reply gives);
      no_faults = replies_without_fault given before after q draw reply gives;
    }

replies_status : (given : Option Command) (before after : KeptState) (q : Request) (draw : Draw) (reply : Reply) → RepliesByCommand given before q draw reply after
    → IsStatusCode reply.status
replies_status None before after q draw reply by_command = answered_status reply before.up before.up q draw by_command.1
replies_status (Some command) before after q draw reply by_command =
    subst (λ (r : Reply). IsStatusCode r.status) (sym by_command.is) (kept_status by_command.result)

pub gives_status : (before after : KeptState) (q : Request) (draw : Draw) (reply : Reply) → AnswersByKeeping before q draw reply after → IsStatusCode reply.status
gives_status before after q draw reply gives = replies_status (command_given before.up.secret q) before after q draw reply gives
