use Rattle.std.proofs.Common.{ap, rules}
use Rattle.unl_edge_state.specs.Writing.{Writing, installed_by}
use Rattle.unl_edge.proofs.ServingEachLink.{same_service}
use Rattle.unl_edge.proofs.edge_service.serve_service.Goals as goal

pub returns-in-Ok-begin_orderly-clause-each_link_served_once : goal.returns-in-Ok-begin_orderly-clause-each_link_served_once
returns-in-Ok-begin_orderly-clause-each_link_served_once g c =
    same_service _ _ _ _ _ _ _ _ _ _ c.serve_from.result (ap (λ (w : Writing). installed_by w) c.in-Ok-begin_orderly.ensures.writer.1)
    (ap (λ (w : Writing). w.known.opening) c.in-Ok-begin_orderly.ensures.writer.1) c.in-Ok-begin_orderly.ensures.count c.requires.workers.0 (search rules)
