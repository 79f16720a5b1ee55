-- The reply of an upstream without a keeper to a request. On the route of commands, the method, the token, the body and the command are
-- checked in this order, and the first check that fails decides the reply.
use Rattle.std.specs.Prelude.{ℕ, List, codes, Bool, false, if◌then◌else◌, Option, Some, None, Ok, Err}
use Rattle.std.specs.Str.{bytes_eq}
use Rattle.serde_json.specs.Data.{object, no_members}
use Rattle.unl_base.specs.declared.draws.Draw.{Draw}
use Rattle.unl_core.specs.Answer.{answer_of, bad_method, status_only, refusal, reply}
use Rattle.unl_documents.specs.declared.field.Field.TheVariants as field
use Rattle.unl_documents.specs.Reading.{Reading}
use Rattle.unl_documents.specs.Writing.{count, with}
use Rattle.unl_http_api.specs.declared.reply.Reply.{Reply as AReply}
use Rattle.unl_http_api.specs.declared.request.Request.{Request}
use Rattle.unl_http_api.specs.declared.route.Route.{Route}
use Rattle.unl_http_api.specs.declared.route.Route.TheVariants as route
use Rattle.unl_http_api.specs.Route.{is_commands, is_post, route_of}
use Rattle.unl_upstream.specs.declared.command.Command.{Command}
use Rattle.unl_upstream.specs.declared.command_or_reply.CommandOrReply.{CommandOrReply}
use Rattle.unl_upstream.specs.declared.command_or_reply.CommandOrReply.TheVariants.{Execute, Reply}
use Rattle.unl_upstream.specs.declared.refusal.KeepCommandRefusal.{KeepCommandRefusal}
use Rattle.unl_upstream.specs.declared.refusal.KeepCommandRefusal.TheVariants.{NoSuchEnvironment, NoSuchFeature}
use Rattle.unl_upstream.specs.declared.refusal.KeepCommandRefusal.TheVariants.{NoSuchSegment, TooMany, KeeperFull, KeeperFault, Memory}
use Rattle.unl_upstream.specs.Command.{IsValidCommand, command_in}
use Rattle.unl_upstream.specs.Upstream.{UpstreamState, CommandResult, AppliedCommand, apply_command, refused_as}

-- a reply, and the upstream after it
pub record Answered : Type 0 where
  pub reply : AReply
  pub up : UpstreamState

-- a reply that changes nothing
abbrev pub changing_nothing : UpstreamState → AReply → Answered
changing_nothing up given = record { reply = given; up = up }

-- ---- commands

-- the reply to an accepted command: the new version number of the environment
abbrev pub numbered : ℕ → AReply
numbered n = reply 200 (object (with field.Number (count n) no_members))

-- the reply to a command that is refused or not kept; `Memory` is no refusal, and its reply has no error name
abbrev pub refused : KeepCommandRefusal → AReply
refused NoSuchEnvironment = refusal 404 (codes "NoSuchEnvironment")
refused NoSuchFeature = refusal 404 (codes "NoSuchFeature")
refused NoSuchSegment = refusal 404 (codes "NoSuchSegment")
refused (TooMany n) = refusal 409 (codes "TooMany")
refused (KeeperFull count) = refusal 409 (codes "TooMany")
refused KeeperFault = refusal 503 (codes "KeeperFault")
refused Memory = status_only 500

-- the reply to a command with this result, and the upstream after it
abbrev pub replied : UpstreamState → CommandResult AppliedCommand → Answered
replied up (Ok applied) = record { reply = numbered applied.number; up = applied.up }
replied up (Err cause) = changing_nothing up (refused (refused_as cause))

-- ---- all requests

-- the command that was read from a body, or the reply to a bad body
abbrev pub command_or_reply_in : Reading Command → CommandOrReply
command_or_reply_in (Ok command) = Execute command
command_or_reply_in (Err fault) = Reply (refusal 400 (codes "BadBody"))

-- what a POST on the route of commands asks for, given its token; its body is read only if the token is the upstream's secret
abbrev pub command_or_reply_with : UpstreamState → Request → Option (List ℕ) → CommandOrReply
command_or_reply_with up q None = Reply (refusal 401 (codes "NoToken"))
command_or_reply_with up q (Some token) =
    if bytes_eq token up.secret then command_or_reply_in (command_in q.body) else Reply (refusal 403 (codes "UnknownToken"))

-- what a request on the route of commands asks for: a command or a refusal; a request that is not a POST is refused
abbrev pub command_or_reply_at : UpstreamState → Request → CommandOrReply
command_or_reply_at up q = if is_post q.method then command_or_reply_with up q q.token else Reply (bad_method route.Commands)

-- whether the route of a request's target is the route of commands; `None` means that the target has no known route
abbrev pub is_commands_route : Option Route → Bool
is_commands_route None = false
is_commands_route (Some route) = is_commands route

-- what a request asks for: on the route of commands a command or a refusal, on all other routes the reply of `answer_of` from the
-- upstream's board; a report of metrics is answered but not stored
unfoldable pub command_or_reply_of : UpstreamState → Request → Draw → CommandOrReply
command_or_reply_of up q draw =
    if is_commands_route (route_of q.target) then command_or_reply_at up q else Reply (answer_of up.board q draw).reply

-- if a request asks for a command, the command's feature or segment is within the limits
abbrev pub IsValidCommandOrReply : CommandOrReply → Type 0
IsValidCommandOrReply (Execute command) = IsValidCommand command
IsValidCommandOrReply (Reply reply) = Unit {0}

-- the reply to what a request asks for, and the upstream after it
abbrev pub done : UpstreamState → CommandOrReply → Answered
done up (Execute command) = replied up (apply_command command up)
done up (Reply reply) = changing_nothing up reply

-- the reply to a request, and the upstream after it
unfoldable pub upstream_answer : UpstreamState → Request → Draw → Answered
upstream_answer up q draw = done up (command_or_reply_of up q draw)
