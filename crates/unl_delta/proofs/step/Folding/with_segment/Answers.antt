use Rattle.unl_documents.specs.States.{id_key}
use Rattle.unl_delta.proofs.Order.{put_rising}
use Rattle.unl_delta.proofs.step.Folding.with_segment.Goals as goal

pub invariant_of-result : goal.invariant_of-result
invariant_of-result c = (
  c.self.invariant.0,
  put_rising id_key _ c.self.inside.segments _ c.self.invariant.1 c.in_ok-put_in_place.ensures,
)
