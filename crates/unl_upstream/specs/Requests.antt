-- The command that a request gives, if it gives one.
use Rattle.std.specs.Prelude.{ℕ, List, ◌&&◌, if◌then◌else◌, Option, Some, None, Ok, Err}
use Rattle.std.specs.Str.{bytes_eq}
use Rattle.unl_documents.specs.Reading.{Reading}
use Rattle.unl_http_api.specs.declared.request.Request.{Request}
use Rattle.unl_http_api.specs.Route.{is_post, route_of}
use Rattle.unl_upstream.specs.declared.command.Command.{Command}
use Rattle.unl_upstream.specs.Answer.{is_commands_route}
use Rattle.unl_upstream.specs.Command.{command_in}

-- the command that was read; `None` if reading failed
abbrev pub if_read : Reading Command → Option Command
if_read (Ok command) = Some command
if_read (Err fault) = None

-- the command in the body, if the token is the secret and the body is a command
abbrev pub shown_with : List ℕ → Request → Option (List ℕ) → Option Command
shown_with secret q None = None
shown_with secret q (Some token) = if bytes_eq token secret then if_read (command_in q.body) else None

-- the command that a request gives, if any: the request must be a POST on the route of commands, with the secret as its token and a command
-- as its body
abbrev pub command_given : List ℕ → Request → Option Command
command_given secret q = if is_commands_route (route_of q.target) && is_post q.method then shown_with secret q q.token else None
