use Rattle.std.proofs.Common.{◌∙◌}
use Rattle.std.proofs.lemmas.List.{map-id}
use Rattle.unl_constraints.proofs.Searching.{decided_by_search}
use Rattle.unl_constraints.proofs.texts.is_among_many.Goals as goal

pub returns : goal.returns
returns c = c.is_at.ensures ∙ rw c.place_of.ensures (decided_by_search (λ value. value) c.args.text.now c.args.values.now (rw map-id c.requires)).1
