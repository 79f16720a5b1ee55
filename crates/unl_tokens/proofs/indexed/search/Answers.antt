use Rattle.std.proofs.Common.{◌∙◌}
use Rattle.unl_tokens.proofs.ByText.{finds, place_below}
use Rattle.unl_tokens.proofs.indexed.search.Goals as goal

pub returns-clause-place : goal.returns-clause-place
returns-clause-place c = c.place_at.ensures ∙ finds c.args.tokens.now c.args.text.now c.args.places.now c.point_of-at.result c.requires c.point_of-at.ensures.point

pub returns-clause-below : goal.returns-clause-below
returns-clause-below c = place_below c.args.tokens.now c.args.text.now c.place_at.result (c.place_at.ensures ∙ finds c.args.tokens.now c.args.text.now c.args.places.now c.point_of-at.result c.requires c.point_of-at.ensures.point)
