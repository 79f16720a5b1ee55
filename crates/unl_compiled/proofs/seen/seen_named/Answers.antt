use Rattle.std.proofs.Common.{sym, ap, ◌∙◌}
use Rattle.std.specs.Prelude.{option_and_then}
use Rattle.unl_dependencies.proofs.Sight.{seen_among_all}
use Rattle.unl_dependencies.specs.Laws.{if_seen}
use Rattle.unl_tokens.specs.Names.{sees}
use Rattle.unl_compiled.proofs.seen.seen_named.Goals as goal

pub returns : goal.returns
returns c =
    let seen = sees c.args.projects.now in
    let name = c.args.name.now in
    c.if_seen.ensures ∙ ap (option_and_then (if_seen seen)) c.feature_named-found.ensures ∙ sym (seen_among_all seen name c.args.parts.now.features c.requires)
