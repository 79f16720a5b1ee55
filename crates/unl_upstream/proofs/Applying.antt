-- The result of a command and the reply to it, by the result of preparing the command.
use Rattle.std.proofs.Common.{◌≡◌, ℕ, Ok, Err, sym, ap, ◌∙◌}
use Rattle.unl_documents.specs.Results.{◌>>=◌}
use Rattle.unl_http_api.specs.declared.reply.Reply.{Reply}
use Rattle.unl_upstream.specs.declared.command.Command.{Command}
use Rattle.unl_upstream.specs.declared.refusal.CommandRefusal.{CommandRefusal}
use Rattle.unl_upstream.specs.declared.refusal.KeepCommandRefusal.{KeepCommandRefusal}
use Rattle.unl_upstream.specs.Answer.{numbered, refused, replied, changing_nothing}
use Rattle.unl_upstream.specs.Upstream.{AppliedCommand, CommandResult, Prepared, UpstreamState}
use Rattle.unl_upstream.specs.Upstream.{apply_command, committed, prepared, refused_as}

-- the result of committing a prepared command
abbrev pub applied_with : Prepared → UpstreamState → AppliedCommand
applied_with ready up = record { up = committed ready up; number = ready.number }

-- the result of a command that was prepared with this result
abbrev pub applied_by : UpstreamState → CommandResult Prepared → CommandResult AppliedCommand
applied_by up result = result >>= λ ready. Ok (applied_with ready up)

-- the result of a command is determined by the result of preparing it
pub applies : (command : Command) (up : UpstreamState) (result : CommandResult Prepared)
    → prepared command up ≡ result → apply_command command up ≡ applied_by up result
unfolding apply_command
applies command up result is = ap (applied_by up) is

-- a command that cannot be prepared is refused
pub refuses_command : (command : Command) (up : UpstreamState) (refusal : CommandRefusal)
    → prepared command up ≡ Err refusal → apply_command command up ≡ Err refusal
refuses_command command up refusal is = applies command up (Err refusal) is

-- a prepared command that was committed is applied
pub applies_ready : (command : Command) (up after : UpstreamState) (ready : Prepared) (number : ℕ)
    → prepared command up ≡ Ok ready → number ≡ ready.number → after ≡ committed ready up
    → apply_command command up ≡ Ok (record { up = after; number = number })
applies_ready command up after ready number is counted published =
    applies command up (Ok ready) is ∙ (λ i. Ok (record { up = sym published i; number = sym counted i }))

-- the reply to a command that was prepared and committed has the new version number
pub replies_ready : (command : Command) (up after : UpstreamState) (ready : Prepared) (number : ℕ) (reply : Reply)
    → prepared command up ≡ Ok ready → number ≡ ready.number → reply ≡ numbered number → after ≡ committed ready up
    → replied up (apply_command command up) ≡ record { reply = reply; up = after }
replies_ready command up after ready number reply is counted made published =
    ap (replied up) (applies_ready command up after ready number is counted published) ∙ (λ i. record { reply = sym made i; up = after })

-- the reply to a command that cannot be prepared is the one for its refusal
pub replies_refused_command : (command : Command) (up : UpstreamState) (refusal : CommandRefusal) (given : KeepCommandRefusal) (reply : Reply)
    → prepared command up ≡ Err refusal → given ≡ refused_as refusal → reply ≡ refused given
    → replied up (apply_command command up) ≡ record { reply = reply; up = up }
replies_refused_command command up refusal given reply is same made =
    ap (replied up) (refuses_command command up refusal is) ∙ sym (ap (changing_nothing up) (made ∙ ap refused same))
