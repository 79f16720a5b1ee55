-- How an upstream that keeps its commands answers one request, and serves a connection. To keep a command is to store it with
-- the keeper and then publish it.
use Rattle.std.specs.Prelude.{◌≡◌, ◌≢◌, ℕ, ◌+◌, List, [], ◌∷◌, ◌++◌, Option, Some, None, Result, Ok, Err, ⊤}
use Rattle.unl_base.specs.declared.draws.Draw.{Draw}
use Rattle.unl_server.specs.Handling.{HandlerState, HandlesRequest, Coming, RunsOutOfMemory, handler_state}
use Rattle.unl_server.specs.Conversation.{AreAnswered, Reaches}
use Rattle.unl_server.specs.Links.{LinkView}
use Rattle.unl_http_api.specs.declared.end.End.{End}
use Rattle.unl_http_api.specs.declared.reply.Reply.{Reply}
use Rattle.unl_http_api.specs.declared.request.Request.{Request}
use Rattle.unl_keeper.specs.State.{KeeperState}
use Rattle.unl_upstream.specs.declared.command.Command.{Command}
use Rattle.unl_upstream.specs.declared.keeping_server.DurableUpstream.{DurableUpstream}
use Rattle.unl_upstream.specs.declared.refusal.KeepCommandRefusal.{KeepCommandRefusal}
use Rattle.unl_upstream.specs.declared.refusal.KeepCommandRefusal.TheVariants.{KeeperFault, Memory}
use Rattle.unl_upstream.specs.Answer.{numbered, refused, changing_nothing, upstream_answer}
use Rattle.unl_upstream.specs.Kept.{Carries, KeepsCommand, AttemptsInOrder, KeptState, KeepAttempt, faults_among, kept_state}
use Rattle.unl_upstream.specs.Requests.{command_given}
use Rattle.unl_upstream.specs.Served.{ServesLinkBy}

-- ---- an upstream and its keeper, behind references

-- the state of the upstream and the keeper behind the references; `state` is the ghost function that reads a keeper's state
abbrev pub kept_in : {K : Type 0} → (K → KeeperState) → DurableUpstream K → KeptState
kept_in state server = kept_state server.up.now (state server.keeper.now)

-- ---- one request

-- the reply to a command, by the result of keeping it
abbrev pub kept_reply : Result ℕ KeepCommandRefusal → Reply
kept_reply (Ok number) = numbered number
kept_reply (Err refusal) = refused refusal

-- An attempt was made to keep a command, and the reply states its result. Memory didn't run out.
pub record RepliesTo (command : Command) (before : KeptState) (reply : Reply) (after : KeptState) : Type 0 where
  pub result : Result ℕ KeepCommandRefusal
  pub keeps : KeepsCommand command before result after
  pub found : result ≢ Err Memory
  pub is : reply ≡ kept_reply result

-- the reply to a request that gives this command, or none; without a command, nothing changes
abbrev pub RepliesByCommand : Option Command → KeptState → Request → Draw → Reply → KeptState → Type 0
RepliesByCommand None before q draw reply after = (after ≡ before) × (upstream_answer before.up q draw ≡ changing_nothing before.up reply)
RepliesByCommand (Some command) before q draw reply after = RepliesTo command before reply after

-- a request is answered: if it gives a command, by an attempt to keep the command, and otherwise as without a keeper
abbrev pub AnswersByKeeping : KeptState → Request → Draw → Reply → KeptState → Type 0
AnswersByKeeping before q draw reply after = RepliesByCommand (command_given before.up.secret q) before q draw reply after

-- running out of memory changes nothing
abbrev pub KeptStateUnchanged : KeptState → Request → Draw → KeptState → Type 0
KeptStateUnchanged before q draw after = after ≡ before

-- the attempt to keep the command of one request, if it gives one
abbrev pub tried_of : (given : Option Command) (before : KeptState) (q : Request) (draw : Draw) (reply : Reply) (after : KeptState)
    → RepliesByCommand given before q draw reply after → List KeepAttempt
tried_of None before q draw reply after by_command = []
tried_of (Some command) before q draw reply after by_command = record { command = command; result = by_command.result } ∷ []

-- A request is answered, and the attempt to keep its command, if it gives one, changes the upstream and the keeper only as `Carries`
-- states: among other things, the upstream is still the result of applying the kept commands in order to the initial one. Unless the
-- keeper failed at this attempt, the reply is not 503 `KeeperFault`.
pub record CarriesAnswer (before : KeptState) (q : Request) (draw : Draw) (reply : Reply) (after : KeptState) : Type 0 where
  pub gives : AnswersByKeeping before q draw reply after
  pub tried : List KeepAttempt
  pub are : tried ≡ tried_of (command_given before.up.secret q) before q draw reply after gives
  pub carries : Carries tried before after
  pub no_faults : faults_among tried ≡ 0 → reply ≢ refused KeeperFault

-- ---- a connection

-- an upstream with its keeper, the number of requests of the connection that it has answered, and the upcoming draws
abbrev pub KeptServing : Type 0
KeptServing = HandlerState KeptState

-- an upstream with its keeper, a number of answered requests, and upcoming draws as one record
abbrev pub kept_serving_state : KeptState → ℕ → Coming → KeptServing
kept_serving_state state count coming = handler_state state count coming

-- one request is answered, with the next draw
abbrev pub ServesKeptRequest : KeptServing → Request → Reply → KeptServing → Type 0
ServesKeptRequest = HandlesRequest AnswersByKeeping

-- a draw was taken for a request, and then memory ran out
abbrev pub KeptServingRunsOut : KeptServing → Request → KeptServing → Type 0
KeptServingRunsOut = RunsOutOfMemory KeptStateUnchanged

-- the attempts to keep the commands of answered requests, in order
abbrev pub tried_in : (count : ℕ) (before : KeptServing) (qs : List Request) (text : List ℕ) (after : KeptServing)
    → AreAnswered ServesKeptRequest count before qs text after → List KeepAttempt
tried_in count before [] text after answered = []
tried_in count before (q ∷ qs) text after (reply, middle, more, step, split, rest) =
    tried_of (command_given before.state.up.secret q) before.state q step.draw reply middle.state step.given
    ++ tried_in (count + 1) middle qs more after rest

-- none of the replies to these requests is 503 `KeeperFault`
abbrev pub NoKeeperFault : (count : ℕ) (before : KeptServing) (qs : List Request) (text : List ℕ) (after : KeptServing)
    → AreAnswered ServesKeptRequest count before qs text after → Type 0
NoKeeperFault count before [] text after answered = ⊤
NoKeeperFault count before (q ∷ qs) text after (reply, middle, more, step, split, rest) =
    (reply ≢ refused KeeperFault) × NoKeeperFault (count + 1) middle qs more after rest

-- However the connection ended, `count` requests were answered in order, and nothing but attempts to keep their commands
-- changed the upstream and its keeper. If the keeper failed at none of these attempts, no reply is 503 `KeeperFault`.
pub record ServesKept (before : KeptServing) (end : End) (count : ℕ) (after : KeptServing) : Type 0 where
  pub reaches : Reaches ServesKeptRequest KeptServingRunsOut before end after count
  pub tried : List KeepAttempt
  pub are : tried ≡ tried_in 0 before reaches.requests reaches.text reaches.reached reaches.answered
  pub keeps : AttemptsInOrder tried before.state after.state
  pub carries : Carries tried before.state after.state
  pub no_faults : faults_among tried ≡ 0 → NoKeeperFault 0 before reaches.requests reaches.text reaches.reached reaches.answered

-- a link was served by an upstream that keeps its commands
abbrev pub ServesLink : KeptState → Coming → LinkView → LinkView → KeptState → Coming → Type 0
ServesLink = ServesLinkBy ServesKeptRequest KeptServingRunsOut ServesKept
