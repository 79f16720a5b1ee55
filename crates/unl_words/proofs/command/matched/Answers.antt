use Rattle.std.proofs.Common.{◌∙◌, ap, sym, map, string_bytes, Ok}
use Rattle.clap.proofs.WalkLemmas.{both}
use Rattle.clap.proofs.TakesLemmas.{passed_up}
use Rattle.clap.specs.Words.{app_of, kind_of, matches_of}
use Rattle.unl_words.specs.Refusals.{refusal_of}
use Rattle.unl_words.specs.Words.{faultless, matched}
use Rattle.unl_words.proofs.Faults.{faulted}
use Rattle.unl_words.proofs.command.matched.Goals as goal

pub returns-in_err-try_get_matches_from-clause-refused : goal.returns-in_err-try_get_matches_from-clause-refused
unfolding matched
returns-in_err-try_get_matches_from-clause-refused c =
    let error = c.in_err-try_get_matches_from.field-0.0 in
    passed_up c.from_residual.result (refusal_of (kind_of error)) _ c.from_residual.ensures.1
    (λ not. faulted _ _ error (c.in_err-try_get_matches_from.ensures.kinds c.requires.simple) not)

pub returns-in_err-try_get_matches_from-clause-accepted : goal.returns-in_err-try_get_matches_from-clause-accepted
returns-in_err-try_get_matches_from-clause-accepted c =
    let error = c.in_err-try_get_matches_from.field-0.0 in
    passed_up c.from_residual.result (refusal_of (kind_of error)) _ c.from_residual.ensures.1
    (λ accepted. ap refusal_of (c.in_err-try_get_matches_from.ensures.passes accepted))

pub returns-clause-rows : goal.returns-clause-rows
returns-clause-rows c = (c.in_ok-try_get_matches_from.ensures.matches (both _ _ c.requires.simple).0).0

pub returns-clause-found : goal.returns-clause-found
unfolding matched
returns-clause-found c =
    ap (λ kinds. faultless kinds (matches_of (app_of c.args.command) (map string_bytes c.args.arguments.now)))
    (c.in_ok-try_get_matches_from.ensures.kinds c.requires.simple)
    ∙ ap Ok (sym (c.in_ok-try_get_matches_from.ensures.matches (both _ _ c.requires.simple).0).0)
