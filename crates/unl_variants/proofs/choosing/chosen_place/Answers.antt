use Rattle.std.proofs.Common.{◌≡◌, ◌<◌, sym, subst, rules, ◌∙◌}
use Rattle.std.specs.Prelude.{IfSome, IfNone}
use Rattle.unl_variants.specs.Variant.{IsReached, total_weight, target_of}
use Rattle.unl_variants.proofs.Choices.{overridden_is, drawn_is}
use Rattle.unl_variants.proofs.choosing.chosen_place.Goals as goal

pub returns-in-Some : goal.returns-in-Some
returns-in-Some c =
    overridden_is c.args.group.now c.args.variants.now c.args.context.now c.args.random c.in-Some.place (search rules) (sym c.first_overridden.ensures ∙ c.in-Some.is)

pub returns : goal.returns
returns c =
    let target : c.target.result ≡ target_of c.args.group.now c.args.variants.now c.args.context.now c.args.random = c.target.ensures.value in
    drawn_is c.args.group.now c.args.variants.now c.args.context.now c.args.random c.place_reached.result (search rules) (sym c.first_overridden.ensures ∙ c.in_default.is)
    (subst (λ t. IfSome c.place_reached.result (IsReached t c.args.variants.now)) target c.place_reached.ensures.reached)
    (subst (λ t. IfNone c.place_reached.result (total_weight c.args.variants.now < t)) target c.place_reached.ensures.too_far)
