-- An upstream without a keeper on a connection: each request is answered, in order, and if a request gives a command, the command is
-- applied.
use Rattle.std.specs.Prelude.{◌≡◌, ℕ, List, [], ◌∷◌, ◌++◌, length, option_to_list}
use Rattle.unl_base.specs.declared.draws.Draw.{Draw}
use Rattle.unl_server.specs.Handling.{HandlerState, HandlesRequest, Coming, RunsOutOfMemory, handler_state}
use Rattle.unl_http_api.specs.declared.reply.Reply.{Reply}
use Rattle.unl_http_api.specs.declared.request.Request.{Request}
use Rattle.unl_upstream.specs.declared.command.Command.{Command}
use Rattle.unl_upstream.specs.Answer.{upstream_answer}
use Rattle.unl_upstream.specs.History.{AreAdded, accepted, after_commands}
use Rattle.unl_upstream.specs.Requests.{command_given}
use Rattle.unl_upstream.specs.Upstream.{UpstreamState}

-- ---- one request

-- the request is answered with the reply `given`, and the upstream is `up_after` afterwards
abbrev pub AnswersRequest : UpstreamState → Request → Draw → Reply → UpstreamState → Type 0
AnswersRequest up q draw given up_after = upstream_answer up q draw ≡ record { reply = given; up = up_after }

-- running out of memory changes nothing
abbrev pub UpstreamUnchanged : UpstreamState → Request → Draw → UpstreamState → Type 0
UpstreamUnchanged up q draw up_after = up_after ≡ up

-- an upstream, the number of requests of the connection that it has answered, and the upcoming draws
abbrev pub Serving : Type 0
Serving = HandlerState UpstreamState

-- an upstream, a number of answered requests, and upcoming draws as one record
abbrev pub serving_state : UpstreamState → ℕ → Coming → Serving
serving_state up count coming = handler_state up count coming

-- one request is answered, with the next draw
abbrev pub ServesRequest : Serving → Request → Reply → Serving → Type 0
ServesRequest = HandlesRequest AnswersRequest

-- a draw was taken for a request, and then memory ran out
abbrev pub ServingRunsOut : Serving → Request → Serving → Type 0
ServingRunsOut = RunsOutOfMemory UpstreamUnchanged

-- ---- the commands among requests

-- the commands that requests give, in order
abbrev pub commands_given : List ℕ → List Request → List Command
commands_given secret [] = []
commands_given secret (q ∷ qs) = option_to_list (command_given secret q) ++ commands_given secret qs

-- `count` requests were answered, and nothing but their commands changed the upstream. If the versions of `up` represent the histories of
-- some commands, those of `up_after` represent the histories of the same commands followed by the accepted commands of the requests.
pub record ObeysRequests (up : UpstreamState) (count : ℕ) (up_after : UpstreamState) : Type 0 where
  pub requests : List Request
  pub counted : length requests ≡ count
  pub obeyed : up_after ≡ after_commands (commands_given up.secret requests) up
  pub versions : AreAdded (accepted (commands_given up.secret requests) up) up up_after
