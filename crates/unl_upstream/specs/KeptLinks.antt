-- The links (connections) that a door accepts, served one after another by an upstream that stores its commands in a keeper. If the
-- links of a door or the upcoming draws (times and random words) are not observable, their value here is `None`.
use Rattle.std.specs.Prelude.{◌≡◌, ℕ, ◌+◌, ◌⊎◌, List, [], ◌∷◌, ◌++◌, length, Result, ⊤}
use Rattle.unl_base.specs.declared.Failed.{Failed}
use Rattle.unl_server.specs.Handling.{Coming}
use Rattle.unl_server.specs.Conversation.{AreAnswered}
use Rattle.unl_server.specs.Linked.{HandsBack, AreServed as LinkedBy, Linking}
use Rattle.unl_http_api.specs.declared.end.End.TheVariants.{Memory}
use Rattle.unl_http_api.specs.declared.request.Request.{Request}
use Rattle.unl_http_api.specs.Session.{ReadsRequests}
use Rattle.unl_upstream.specs.declared.command.Command.{Command}
use Rattle.unl_upstream.specs.History.{after_commands}
use Rattle.unl_upstream.specs.Kept.{AttemptsInOrder, SomeAttempts, KeptState, KeepAttempt, acknowledged, faults_among}
use Rattle.unl_upstream.specs.KeptServing.{KeptServing, KeptServingRunsOut, NoKeeperFault, ServesKept, ServesKeptRequest}
use Rattle.unl_upstream.specs.KeptServing.{kept_serving_state, tried_in}
use Rattle.unl_upstream.specs.Served.{draws_after}
use Rattle.unl_upstream.specs.Served.{ServesAllLinksBy, LinkServedBy}
use Rattle.unl_upstream.specs.Upstream.{UpstreamState}

-- A link on which these bytes were received was served. The pair is the bytes that were sent on it, and its fault count. Some of
-- its requests, from the first on, were answered, each with the next draw. The upstream and its keeper were changed only by attempts
-- to keep (apply and store) the commands of these requests.
abbrev pub LinkServed : KeptState → Coming → List ℕ → List ℕ × ℕ → KeptState → Coming → Type 0
LinkServed = LinkServedBy ServesKeptRequest KeptServingRunsOut ServesKept

-- ---- links one after another

-- if some attempts to keep commands lead from a state to `before`, then some attempts lead from that state to `after`
abbrev pub ExtendsAttempts : KeptState → KeptState → Type 0
ExtendsAttempts before after = (start : KeptState) → SomeAttempts start before → SomeAttempts start after

-- Links on which these bytes were received were served one after another. Each pair is the bytes sent on a link, and the link's fault
-- count.
abbrev pub Linked : KeptState → Coming → List (List ℕ) → List (List ℕ × ℕ) → KeptState → Coming → Type 0
Linked = LinkedBy LinkServed

-- the state while links are served: the upstream and its keeper, the upcoming draws, and the door's links
abbrev pub KeptLinking : Type 0
KeptLinking = Linking KeptState

-- The door handed out this number of links, and all were given back to it. If the door's links are observable, each was served.
abbrev pub ServesKeptLinks : KeptLinking → KeptLinking → ℕ → Type 0
ServesKeptLinks = HandsBack LinkServed

-- on success as many links were served as the result says; if the door failed, some number of links were
abbrev pub ServesAllKeptLinks : Result ℕ Failed → KeptLinking → KeptLinking → Type 0
ServesAllKeptLinks = ServesAllLinksBy LinkServed

-- ---- the state, described by the kept commands and by the number of draws taken

-- The upstream is `start` after these commands, and its keeper keeps one row for each of them, after the `reopened` rows that
-- it was reopened with.
pub record IsNamed (start : UpstreamState) (reopened : ℕ) (commands : List Command) (state : KeptState) : Type 0 where
  pub up : state.up ≡ after_commands commands start
  pub count : state.keeper.count ≡ reopened + length commands

-- A link was served, on which `bytes` were received; `back` is the bytes sent on it and its fault count. `requests` are the answered
-- requests, which are the first ones in `bytes`. `commands` are the commands of these requests that were accepted and kept. One draw was
-- taken for each answered request, and perhaps one more if memory ran out.
pub record LinkEffect
    (before : KeptState) (coming : Coming) (bytes : List ℕ) (back : List ℕ × ℕ) (commands : List Command) (taken : ℕ)
    (after : KeptState) (coming_after : Coming) : Type 0 where
  pub served : LinkServed before coming bytes back after coming_after
  pub requests : List Request
  pub rest : List ℕ
  pub asked : ReadsRequests bytes requests rest
  pub counted : length requests ≡ served.count
  pub text : List ℕ
  pub reached : KeptServing
  pub answered : AreAnswered ServesKeptRequest 0 (kept_serving_state before 0 coming) requests text reached
  pub gives : commands ≡ acknowledged (tried_in 0 (kept_serving_state before 0 coming) requests text reached answered)
  pub takes : (taken ≡ served.count) ⊎ ((served.end ≡ Memory) × (taken ≡ served.count + 1))

-- Links were served one after another. Before the first link, `commands` were kept since `start`, and `drawn` of the draws in `coming` were
-- taken; after the last link, these are `commands_after` and `drawn_after`. Each link adds its kept commands and its draws.
abbrev pub LinkedByNames :
    UpstreamState → ℕ → Coming → List Command → ℕ → KeptState → List (List ℕ) → List (List ℕ × ℕ) → List Command → ℕ → KeptState → Type 0
LinkedByNames start reopened coming commands drawn state [] [] commands_after drawn_after after =
    (commands_after ≡ commands) × (drawn_after ≡ drawn) × (after ≡ state)
LinkedByNames start reopened coming commands drawn state [] (back ∷ backs) commands_after drawn_after after = ⊥
LinkedByNames start reopened coming commands drawn state (bytes ∷ links) [] commands_after drawn_after after = ⊥
LinkedByNames start reopened coming commands drawn state (bytes ∷ links) (back ∷ backs) commands_after drawn_after after =
    (more : List Command) × (taken : ℕ) × (middle : KeptState)
    × LinkEffect state (draws_after drawn coming) bytes back more taken middle (draws_after (drawn + taken) coming)
    × IsNamed start reopened (commands ++ more) middle
    × LinkedByNames start reopened coming (commands ++ more) (drawn + taken) middle links backs commands_after drawn_after after

-- no reply on these links is 503 `KeeperFault`
abbrev pub NoKeeperFaults : (start : UpstreamState) (reopened : ℕ) (coming : Coming) (commands : List Command) (drawn : ℕ)
    (state : KeptState) (links : List (List ℕ)) (backs : List (List ℕ × ℕ)) (commands_after : List Command) (drawn_after : ℕ)
    (after : KeptState) → LinkedByNames start reopened coming commands drawn state links backs commands_after drawn_after after → Type 0
NoKeeperFaults start reopened coming commands drawn state [] [] commands_after drawn_after after linked = ⊤
NoKeeperFaults start reopened coming commands drawn state [] (back ∷ backs) commands_after drawn_after after linked = ⊤
NoKeeperFaults start reopened coming commands drawn state (bytes ∷ links) [] commands_after drawn_after after linked = ⊤
NoKeeperFaults start reopened coming commands drawn state (bytes ∷ links) (back ∷ backs) commands_after drawn_after after
    (more, taken, middle, names, named, others) =
    NoKeeperFault 0 (kept_serving_state state 0 (draws_after drawn coming)) names.requests names.text names.reached names.answered
    × NoKeeperFaults start reopened coming (commands ++ more) (drawn + taken) middle links backs commands_after drawn_after after others

-- Links were served, and the state after them is described by the kept commands and the draws taken since `start`. Nothing but
-- attempts to keep the commands of their requests, in order, changed the upstream and its keeper. If the keeper failed at none of
-- these attempts, no reply is 503 `KeeperFault`.
pub record AllLinksEffect
    (start : UpstreamState) (reopened : ℕ) (coming : Coming) (commands : List Command) (drawn : ℕ) (state : KeptState)
    (links : List (List ℕ)) (backs : List (List ℕ × ℕ)) (after : KeptState) (coming_after : Coming) : Type 0 where
  pub commands_after : List Command
  pub drawn_after : ℕ
  pub linked : LinkedByNames start reopened coming commands drawn state links backs commands_after drawn_after after
  pub named : IsNamed start reopened commands_after after
  pub draws : coming_after ≡ draws_after drawn_after coming
  pub tried : List KeepAttempt
  pub keeps : AttemptsInOrder tried state after
  pub adds : commands_after ≡ commands ++ acknowledged tried
  pub no_faults : faults_among tried ≡ 0
      → NoKeeperFaults start reopened coming commands drawn state links backs commands_after drawn_after after linked

-- if links are served from a state that is described by commands and draws, `AllLinksEffect` holds for them
abbrev pub KeptLinksNameCommands : Type 0
KeptLinksNameCommands = (start : UpstreamState) (reopened : ℕ) (coming : Coming) (commands : List Command) (drawn : ℕ) (state : KeptState)
    (links : List (List ℕ)) (backs : List (List ℕ × ℕ)) (after : KeptState) (coming_after : Coming)
    → IsNamed start reopened commands state → Linked state (draws_after drawn coming) links backs after coming_after
    → AllLinksEffect start reopened coming commands drawn state links backs after coming_after
