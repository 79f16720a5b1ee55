-- The statuses of an upstream's replies: each is an HTTP status, and only the reply to a command that was to be kept may be
-- 503 `KeeperFault`.
use Rattle.std.proofs.Common.{◌≡◌, ◌≢◌, inl, inr, sym, subst, ap, ◌∙◌, ℕ, List, length, Bool, true, false, Option, Some, None, cond, arith, Result, Ok, Err}
use Rattle.std.specs.Prelude.{codes}
use Rattle.std.specs.Str.{bytes_eq}
use Rattle.http.specs.StatusCode.{IsStatusCode}
use Rattle.serde_json.proofs.OnLiterals.{serde_json_on_literals}
use Rattle.unl_base.specs.declared.draws.Draw.{Draw}
use Rattle.unl_core.specs.Answer.{answer_of, bad_method, refusal}
use Rattle.unl_core.proofs.Statuses.{IsPlain, IsUsual, answer_plain, plain_status}
use Rattle.unl_documents.specs.Reading.{Reading}
use Rattle.unl_http_api.specs.declared.reply.Reply.{Reply as AReply}
use Rattle.unl_http_api.specs.declared.request.Request.{Request}
use Rattle.unl_http_api.specs.declared.route.Route.TheVariants as route
use Rattle.unl_http_api.specs.Route.{is_post, route_of}
use Rattle.unl_upstream.specs.declared.command.Command.{Command}
use Rattle.unl_upstream.specs.declared.command_or_reply.CommandOrReply.{CommandOrReply}
use Rattle.unl_upstream.specs.declared.command_or_reply.CommandOrReply.TheVariants.{Reply}
use Rattle.unl_upstream.specs.declared.refusal.CommandRefusal.{CommandRefusal}
use Rattle.unl_upstream.specs.declared.refusal.CommandRefusal.TheVariants as plainly
use Rattle.unl_upstream.specs.declared.refusal.KeepCommandRefusal.{KeepCommandRefusal}
use Rattle.unl_upstream.specs.declared.refusal.KeepCommandRefusal.TheVariants.{NoSuchEnvironment, NoSuchFeature, NoSuchSegment, TooMany, KeeperFull, KeeperFault, Memory}
use Rattle.unl_upstream.specs.Answer.{Answered, done, is_commands_route, command_or_reply_at, command_or_reply_in, command_or_reply_of, command_or_reply_with, refused, replied, upstream_answer}
use Rattle.unl_upstream.specs.Command.{command_in}
use Rattle.unl_upstream.specs.Kept.{keeper_faults}
use Rattle.unl_upstream.specs.KeptServing.{kept_reply}
use Rattle.unl_upstream.specs.Upstream.{AppliedCommand, CommandResult, UpstreamState, apply_command, refused_as}

-- a plain reply is not 503 `KeeperFault`
plain_differs : (r : AReply) → IsPlain r → r ≢ refused KeeperFault
unfolding serde_json_on_literals
plain_differs r (inl within) is = let status : r.status ≡ 503 = ap (λ (x : AReply). x.status) is in absurd (omega (arith, within.1, status))
plain_differs r (inr (inl is)) same = let few : 20 ≡ 23 = ap (λ (x : AReply). length x.body) (sym is ∙ same) in absurd (omega (arith, few))
plain_differs r (inr (inr is)) same = let many : 30 ≡ 23 = ap (λ (x : AReply). length x.body) (sym is ∙ same) in absurd (omega (arith, many))

-- ---- the usual statuses

is_200 : IsUsual 200
is_200 = omega arith

is_400 : IsUsual 400
is_400 = omega arith

is_401 : IsUsual 401
is_401 = omega arith

is_403 : IsUsual 403
is_403 = omega arith

is_404 : IsUsual 404
is_404 = omega arith

is_405 : IsUsual 405
is_405 = omega arith

is_409 : IsUsual 409
is_409 = omega arith

is_500 : IsUsual 500
is_500 = omega arith

-- ---- replies of an upstream

refused_plain : (cause : CommandRefusal) → IsPlain (refused (refused_as cause))
refused_plain plainly.NoSuchEnvironment = inl is_404
refused_plain plainly.NoSuchFeature = inl is_404
refused_plain plainly.NoSuchSegment = inl is_404
refused_plain (plainly.TooMany n) = inl is_409
refused_plain plainly.Memory = inl is_500

command_plain : (up : UpstreamState) (result : CommandResult AppliedCommand) → IsPlain (replied up result).reply
command_plain up (Ok applied) = inl is_200
command_plain up (Err cause) = refused_plain cause

either_command_or_reply : (up : UpstreamState) (b : Bool) (x y : CommandOrReply) → IsPlain (done up x).reply → IsPlain (done up y).reply → IsPlain (done up (cond b x y)).reply
either_command_or_reply up true x y p q = p
either_command_or_reply up false x y p q = q

body_plain : (up : UpstreamState) (reading : Reading Command) → IsPlain (done up (command_or_reply_in reading)).reply
body_plain up (Ok command) = command_plain up (apply_command command up)
body_plain up (Err fault) = inl is_400

token_plain : (up : UpstreamState) (q : Request) (token : Option (List ℕ)) → IsPlain (done up (command_or_reply_with up q token)).reply
token_plain up q None = inl is_401
token_plain up q (Some token) =
    either_command_or_reply up (bytes_eq token up.secret) (command_or_reply_in (command_in q.body)) (Reply (refusal 403 (codes "UnknownToken")))
    (body_plain up (command_in q.body)) (inl is_403)

answered_plain : (up : UpstreamState) (q : Request) (draw : Draw) → IsPlain (upstream_answer up q draw).reply
unfolding upstream_answer command_or_reply_of
answered_plain up q draw =
    either_command_or_reply up (is_commands_route (route_of q.target)) (command_or_reply_at up q) (Reply (answer_of up.board q draw).reply)
    (either_command_or_reply up (is_post q.method) (command_or_reply_with up q q.token) (Reply (bad_method route.Commands)) (token_plain up q q.token) (inl is_405))
    (answer_plain up.board q draw)

-- every reply of an upstream has an HTTP status
pub answered_status : (r : AReply) (up after : UpstreamState) (q : Request) (draw : Draw) → upstream_answer up q draw ≡ record { reply = r; up = after } → IsStatusCode r.status
answered_status r up after q draw is =
    subst (λ (a : Answered). IsStatusCode a.reply.status) is (plain_status (upstream_answer up q draw).reply (answered_plain up q draw))

-- the reply of an upstream without a keeper is never 503 `KeeperFault`
pub answered_without_fault : (r : AReply) (up after : UpstreamState) (q : Request) (draw : Draw) → upstream_answer up q draw ≡ record { reply = r; up = after } → r ≢ refused KeeperFault
answered_without_fault r up after q draw is =
    subst (λ (a : Answered). a.reply ≢ refused KeeperFault) is (plain_differs (upstream_answer up q draw).reply (answered_plain up q draw))

-- ---- replies to commands that were to be kept

kept_plain : (result : Result ℕ KeepCommandRefusal) → keeper_faults result ≡ 0 → IsPlain (kept_reply result)
kept_plain (Ok number) none = inl is_200
kept_plain (Err NoSuchEnvironment) none = inl is_404
kept_plain (Err NoSuchFeature) none = inl is_404
kept_plain (Err NoSuchSegment) none = inl is_404
kept_plain (Err (TooMany n)) none = inl is_409
kept_plain (Err (KeeperFull n)) none = inl is_409
kept_plain (Err KeeperFault) none = absurd (omega (arith, none))
kept_plain (Err Memory) none = inl is_500

-- a usual status is an HTTP status
usual_code : {status : ℕ} → IsUsual status → IsStatusCode status
usual_code within = omega (arith, within.0, within.1)

pub kept_status : (result : Result ℕ KeepCommandRefusal) → IsStatusCode (kept_reply result).status
kept_status (Ok number) = usual_code is_200
kept_status (Err NoSuchEnvironment) = usual_code is_404
kept_status (Err NoSuchFeature) = usual_code is_404
kept_status (Err NoSuchSegment) = usual_code is_404
kept_status (Err (TooMany n)) = usual_code is_409
kept_status (Err (KeeperFull n)) = usual_code is_409
kept_status (Err KeeperFault) = omega arith
kept_status (Err Memory) = usual_code is_500

-- the reply to a command that was to be kept is 503 `KeeperFault` only if the keeper failed
pub kept_without_fault : (result : Result ℕ KeepCommandRefusal) → keeper_faults result ≡ 0 → kept_reply result ≢ refused KeeperFault
kept_without_fault result none = plain_differs (kept_reply result) (kept_plain result none)
