use Rattle.std.proofs.Common.{◌∙◌, ap, map, string_bytes}
use Rattle.clap.specs.Words.{is_simple_and_free, takes}
use Rattle.unl_words.proofs.Faults.{forwarded_refusal}
use Rattle.unl_words.proofs.Simple.{command_simple}
use Rattle.unl_words.proofs.read.read_command.Goals as goal

pub matched-requires : goal.matched-requires
matched-requires c = record { simple = ap is_simple_and_free c.in_ok-command.ensures ∙ command_simple c.args.name }

pub returns-in_err-matches-clause-decided : goal.returns-in_err-matches-clause-decided
returns-in_err-matches-clause-decided c accepted =
    let up = c.from_residual-in_err-matches in
    forwarded_refusal up.result c.in_err-matches.field-0.0 _ up.ensures.0 up.ensures.1
    (λ not. absurd (not (c.in_err-matches.ensures.accepted (ap (λ app. takes app (map string_bytes c.args.arguments.now)) c.in_ok-command.ensures ∙ accepted))))
