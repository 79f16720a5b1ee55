-- The effect of a connection's commands on an upstream.
use Rattle.std.proofs.Common.{◌≡◌, ℕ, ◌+◌, ◌⊎◌, inl, inr, List, [], ◌∷◌, ◌++◌, refl, sym, ap, ◌∙◌}
use Rattle.std.specs.Prelude.{option_to_list}
use Rattle.unl_base.specs.declared.draws.Draw.{Draw}
use Rattle.unl_server.specs.Conversation.{AreAnswered, Reaches}
use Rattle.unl_http_api.specs.declared.end.End.{End}
use Rattle.unl_http_api.specs.declared.end.End.TheVariants as ends
use Rattle.unl_http_api.specs.declared.reply.Reply.{Reply}
use Rattle.unl_http_api.specs.declared.request.Request.{Request}
use Rattle.unl_upstream.specs.declared.command.Command.{Command}
use Rattle.unl_upstream.specs.Answer.{Answered, upstream_answer}
use Rattle.unl_upstream.specs.History.{AreAdded, accepted, after_command, after_commands}
use Rattle.unl_upstream.specs.Requests.{command_given}
use Rattle.unl_upstream.specs.Serving.{ServingRunsOut, ObeysRequests, Serving, ServesRequest, commands_given}
use Rattle.unl_upstream.specs.Upstream.{UpstreamState}
use Rattle.unl_upstream.proofs.Given.{answer_results}
use Rattle.unl_upstream.proofs.VersionLemmas.{secret_stays, some_added}

-- the command of a request is added to the histories, if it is accepted
pub answer_adds : (up after : UpstreamState) (q : Request) (draw : Draw) (reply : Reply) → upstream_answer up q draw ≡ record { reply = reply; up = after }
    → AreAdded (accepted (option_to_list (command_given up.secret q)) up) up after
answer_adds up after q draw reply is =
    some_added (option_to_list (command_given up.secret q)) up after (sym (ap (λ (a : Answered). a.up) is) ∙ answer_results up q draw)

-- no command changes the secret
commands_secret : (commands : List Command) (up : UpstreamState) → (after_commands commands up).secret ≡ up.secret
commands_secret [] up = refl
commands_secret (command ∷ commands) up = commands_secret commands (after_command command up) ∙ secret_stays command up

-- two lists of commands, applied in order
pub after_both : (first second : List Command) (up : UpstreamState) → after_commands (first ++ second) up ≡ after_commands second (after_commands first up)
after_both [] second up = refl
after_both (command ∷ first) second up = after_both first second (after_command command up)

-- the upstream after requests is that after their commands
pub requests_up : (count : ℕ) (qs : List Request) (text : List ℕ) (before after : Serving) → AreAnswered ServesRequest count before qs text after
    → after.state ≡ after_commands (commands_given before.state.secret qs) before.state
requests_up count [] text before after answered = ap (λ (s : Serving). s.state) answered.1
requests_up count (q ∷ qs) text before after answered =
    let middle : Serving = answered.1 in
    let step : ServesRequest before q answered.0 middle = answered.3 in
    let first : middle.state ≡ after_commands (option_to_list (command_given before.state.secret q)) before.state =
    ap (λ (a : Answered). a.up) (sym step.given) ∙ answer_results before.state q step.draw in
    let secret : middle.state.secret ≡ before.state.secret =
    ap (λ (u : UpstreamState). u.secret) first ∙ commands_secret (option_to_list (command_given before.state.secret q)) before.state in
    requests_up (count + 1) qs answered.2 middle after answered.5
    ∙ ap (λ s. after_commands (commands_given s qs) middle.state) secret
    ∙ ap (after_commands (commands_given before.state.secret qs)) first
    ∙ sym (after_both (option_to_list (command_given before.state.secret q)) (commands_given before.state.secret qs) before.state)

-- the upstream after a connection is that after the commands of its requests
pub obeys_requests : (before after : Serving) (end : End) (count : ℕ) → Reaches ServesRequest ServingRunsOut before end after count → ObeysRequests before.state count after.state
obeys_requests before after end count reaches = record {
  requests = reaches.requests;
  counted = reaches.counted;
  obeyed = by_next reaches.next;
  versions = some_added (commands_given before.state.secret reaches.requests) before.state after.state (by_next reaches.next);
}
  where
    answered_up : reaches.reached.state ≡ after_commands (commands_given before.state.secret reaches.requests) before.state
    answered_up = requests_up 0 reaches.requests reaches.text before reaches.reached reaches.answered

    by_next : (after ≡ reaches.reached) ⊎ ((end ≡ ends.Memory) × (request : Request) × ServingRunsOut reaches.reached request after)
        → after.state ≡ after_commands (commands_given before.state.secret reaches.requests) before.state
    by_next (inl same) = ap (λ (s : Serving). s.state) same ∙ answered_up
    by_next (inr lacks) = lacks.2.ran_out ∙ answered_up
