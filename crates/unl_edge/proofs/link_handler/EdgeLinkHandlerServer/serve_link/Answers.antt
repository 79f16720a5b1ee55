use Rattle.std.proofs.Common.{ap}
use Rattle.unl_edge.proofs.Answering.{risen}
use Rattle.unl_refresh.specs.MetricsQueues.{Sending}
use Rattle.unl_edge.proofs.link_handler.EdgeLinkHandlerServer.serve_link.Goals as goal

pub returns-clause-keeps : goal.returns-clause-keeps
returns-clause-keeps g c = (
  record { rises = risen _ _ _ c.serve_connection.ensures.fronts; keeps = c.serve_connection.ensures.keeps },
  ap (λ (s : Sending). s.queue) c.hand_over.ensures.same,
)
