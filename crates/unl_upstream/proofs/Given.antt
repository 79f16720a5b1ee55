-- The commands that requests give, and their effect.
use Rattle.std.proofs.Common.{◌≡◌, ℕ, List, Bool, true, false, cond, Option, Some, None, Ok, Err, refl, ap, ◌∙◌}
use Rattle.std.specs.Prelude.{◌&&◌, option_to_list}
use Rattle.std.specs.Str.{bytes_eq}
use Rattle.unl_base.specs.declared.draws.Draw.{Draw}
use Rattle.unl_core.specs.Answer.{answer_of}
use Rattle.unl_documents.specs.Reading.{Reading}
use Rattle.unl_http_api.specs.declared.request.Request.{Request}
use Rattle.unl_http_api.specs.Route.{is_post, route_of}
use Rattle.unl_upstream.specs.declared.command.Command.{Command}
use Rattle.unl_upstream.specs.declared.command_or_reply.CommandOrReply.{CommandOrReply}
use Rattle.unl_upstream.specs.declared.command_or_reply.CommandOrReply.TheVariants.{Execute, Reply}
use Rattle.unl_upstream.specs.Answer.{done, is_commands_route, command_or_reply_at, command_or_reply_in, command_or_reply_of, command_or_reply_with, replied, upstream_answer}
use Rattle.unl_upstream.specs.Command.{command_in}
use Rattle.unl_upstream.specs.History.{after_commands, up_after}
use Rattle.unl_upstream.specs.Requests.{command_given, if_read, shown_with}
use Rattle.unl_upstream.specs.Upstream.{AppliedCommand, CommandResult, UpstreamState, apply_command}

-- the command in what a request asks for, if there is one
abbrev pub command_within : CommandOrReply → Option Command
command_within (Execute command) = Some command
command_within (Reply reply) = None

-- what a request asks for is this command, or a reply if there is none
Has : CommandOrReply → Option Command → Type 0
Has what given = command_within what ≡ given

either : (t : Bool) (x y : CommandOrReply) (c d : Option Command) → Has x c → Has y d → Has (cond t x y) (cond t c d)
either true x y c d p q = p
either false x y c d p q = q

body_has : (reading : Reading Command) → Has (command_or_reply_in reading) (if_read reading)
unfolding Has
body_has (Ok command) = refl
body_has (Err fault) = refl

token_has : (up : UpstreamState) (q : Request) (token : Option (List ℕ)) → Has (command_or_reply_with up q token) (shown_with up.secret q token)
unfolding Has
token_has up q None = refl
token_has up q (Some token) = either (bytes_eq token up.secret) _ _ (if_read (command_in q.body)) None (body_has (command_in q.body)) refl

command_has : (up : UpstreamState) (q : Request) → Has (command_or_reply_at up q) (cond (is_post q.method) (shown_with up.secret q q.token) None)
unfolding Has
command_has up q = either (is_post q.method) _ _ (shown_with up.secret q q.token) None (token_has up q q.token) refl

-- what a request asks for has the command that the request gives
pub command_of_request : (up : UpstreamState) (q : Request) (draw : Draw) → command_within (command_or_reply_of up q draw) ≡ command_given up.secret q
unfolding command_or_reply_of Has
command_of_request up q draw = decided (is_commands_route (route_of q.target)) (command_has up q)
  where
    decided : (t : Bool) → Has (command_or_reply_at up q) (cond (is_post q.method) (shown_with up.secret q q.token) None)
        → Has (cond t (command_or_reply_at up q) (Reply (answer_of up.board q draw).reply)) (cond (t && is_post q.method) (shown_with up.secret q q.token) None)
    decided true has = has
    decided false has = refl

replied_up : (up : UpstreamState) (result : CommandResult AppliedCommand) → (replied up result).up ≡ up_after up result
replied_up up (Ok applied) = refl
replied_up up (Err cause) = refl

done_up : (up : UpstreamState) (what : CommandOrReply) → (done up what).up ≡ after_commands (option_to_list (command_within what)) up
done_up up (Execute command) = replied_up up (apply_command command up)
done_up up (Reply reply) = refl

pub answer_results : (up : UpstreamState) (q : Request) (draw : Draw) → (upstream_answer up q draw).up ≡ after_commands (option_to_list (command_given up.secret q)) up
unfolding upstream_answer
answer_results up q draw =
    done_up up (command_or_reply_of up q draw) ∙ ap (λ (given : Option Command). after_commands (option_to_list given) up) (command_of_request up q draw)
