use Rattle.std.specs.Prelude.{◌∷◌, []}
use Rattle.unl_documents.specs.States.{id_key}
use Rattle.unl_delta.proofs.Order.{without_rising}
use Rattle.unl_delta.proofs.step.Folding.without_segment.Goals as goal

pub invariant_of-result : goal.invariant_of-result
invariant_of-result c = (
  c.self.invariant.0,
  without_rising id_key (c.args.id.now ∷ []) c.self.inside.segments _ c.self.invariant.1 c.without_in_place.ensures,
)
