use Rattle.std.proofs.Common.{subst}
use Rattle.unl_edge_state.specs.Writing.{LeadsTo, Writing, installed_by}
use Rattle.unl_edge_state.proofs.Writings.{leads_to}
use Rattle.unl_publication.specs.Seen.{published, stays_closed}
use Rattle.unl_edge_state.proofs.writer.EdgeWriter.leads_here.Goals as goal

pub returns : goal.returns
returns g c =
    subst (λ (w : Writing). LeadsTo w.known.opening w.known.installs (installed_by w)) c.self.view_is
    (leads_to (record {
      known = published c.self.inside.publisher;
      places = c.self.inside.places.items;
      closed = stays_closed c.self.inside.publisher;
    }) c.self.invariant)
