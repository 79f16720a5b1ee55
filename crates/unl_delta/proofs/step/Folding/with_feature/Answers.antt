use Rattle.unl_documents.specs.States.{name_key}
use Rattle.unl_delta.proofs.Order.{put_rising}
use Rattle.unl_delta.proofs.step.Folding.with_feature.Goals as goal

pub invariant_of-result : goal.invariant_of-result
invariant_of-result c = (
  put_rising name_key _ c.self.inside.features _ c.self.invariant.0 c.in_ok-put_in_chunks.ensures,
  c.self.invariant.1,
)
