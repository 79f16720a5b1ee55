use Rattle.std.proofs.Common.{ap, ◌∙◌}
use Rattle.unl_base.specs.Doors.{taking_back}
use Rattle.unl_server.specs.Links.{link_view}
use Rattle.unl_server.proofs.door.serve_next.Goals as goal

pub returns-in-Some-clause-serves : goal.returns-in-Some-clause-serves
returns-in-Some-clause-serves g c =
    let accepted = rw (c.in-Some.is) at c.in_ok-link.ensures.accepts in
    let fresh = rw (c.in-Some.is) at c.in_ok-link.ensures.fresh in
    let served = c.serve_and_return.ensures.served in
    record {
      link = link_view _ _ _;
      link_after = served.0;
      closed = _;
      is_open = accepted.0;
      fresh = fresh;
      served = served.1;
      door = served.2 ∙ ap (taking_back served.0.sent served.0.faults) accepted.1;
    }
