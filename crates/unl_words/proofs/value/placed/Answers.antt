use Rattle.std.proofs.Common.{◌≡◌, ◌∙◌, true, ap, subst, sym}
use Rattle.unl_context.specs.Context.{Fields}
use Rattle.unl_context.specs.Limits.{is_within_limits}
use Rattle.unl_words.specs.Lists.{environment_of}
use Rattle.unl_words.specs.Values.{placed}
use Rattle.unl_words.proofs.Contexts.{placed_within}
use Rattle.unl_words.proofs.value.placed.Goals as goal

pub returns-clause-valid : goal.returns-clause-valid
returns-clause-valid c =
    let named : c.as_str-2.result.now ≡ environment_of c.args.token.now =
    c.as_str-2.ensures ∙ c.in_ok-environment.ensures ∙ ap environment_of c.as_str.ensures in
    let is : c.set_environment.new.self ≡ placed (environment_of c.args.token.now) c.args.context =
    c.in_ok-set_environment.ensures.ok ∙ ap (λ environment. placed environment c.args.context) named in
    subst (λ (context : Fields). is_within_limits context ≡ true) (sym is)
    (placed_within c.args.token.now c.args.context c.requires.token c.requires.within)
