use Rattle.std.proofs.Common.{subst}
use Rattle.unl_variants.specs.Variant.{IsChosen}
use Rattle.unl_variants.proofs.Choices.{value_is, chosen_once, none_is, inside_is}
use Rattle.unl_variants.proofs.choosing.choose.Goals as goal

pub returns-clause-chosen : goal.returns-clause-chosen
returns-clause-chosen c = subst (λ vs. IsChosen c.args.group.now vs c.args.context.now c.args.random c.chosen_place.result) c.as_slice.ensures c.chosen_place.ensures

pub returns-clause-value : goal.returns-clause-value
returns-clause-value c = value_is c.args.group.now c.args.variants.now c.args.context.now c.args.random c.chosen_place.result (returns-clause-chosen c)

pub returns-clause-only : goal.returns-clause-only
returns-clause-only c choice is = chosen_once c.args.group.now c.args.variants.now c.args.context.now c.args.random choice c.chosen_place.result is (returns-clause-chosen c)

pub returns-clause-none : goal.returns-clause-none
returns-clause-none c = none_is c.args.group.now c.args.variants.now c.args.context.now c.args.random c.chosen_place.result (returns-clause-chosen c)

pub returns-clause-inside : goal.returns-clause-inside
returns-clause-inside c = inside_is c.args.group.now c.args.variants.now c.args.context.now c.args.random c.chosen_place.result (returns-clause-chosen c)
