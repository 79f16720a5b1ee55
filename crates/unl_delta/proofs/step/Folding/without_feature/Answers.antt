use Rattle.unl_documents.specs.States.{name_key}
use Rattle.unl_delta.proofs.Order.{without_rising}
use Rattle.unl_delta.proofs.step.Folding.without_feature.Goals as goal

pub invariant_of-result : goal.invariant_of-result
invariant_of-result c = (
  without_rising name_key c.args.name.now c.self.inside.features _ c.self.invariant.0 c.in_ok-without_in_chunks.ensures,
  c.self.invariant.1,
)
