use Rattle.unl_server.specs.Links.{link_view}
use Rattle.unl_workers.proofs.worker.serve_one.Goals as goal

pub returns-clause-served : goal.returns-clause-served
returns-clause-served g c = record { link = link_view _ _ _; link_after = link_view _ _ _; served = c.serve_link.ensures.serves }

pub returns-clause-this : goal.returns-clause-this
returns-clause-this g c = record { link_after = link_view _ _ _; served = c.serve_link.ensures.serves }
