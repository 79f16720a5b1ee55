use Rattle.unl_server.specs.Links.{link_view}
use Rattle.unl_server.proofs.door.serve_and_return.Goals as goal

pub returns-clause-served : goal.returns-clause-served
returns-clause-served g c = (
  link_view (g.D.L.Source.left c.serve_link.new.link) (g.D.L.Sink.sent c.serve_link.new.link) (g.D.L.Source.faults c.serve_link.new.link),
  c.serve_link.ensures.serves,
  c.give_back.ensures.returns,
)
