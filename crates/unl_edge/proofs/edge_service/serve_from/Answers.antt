use Rattle.std.proofs.Common.{arith, length, refl}
use Rattle.unl_edge_state.specs.Writing.{installed_by}
use Rattle.unl_edge.proofs.ServingEachLink.{each_after_turn}
use Rattle.unl_edge.proofs.Working.{asked_first}
use Rattle.unl_edge.proofs.edge_service.serve_from.Goals as goal

pub returns-in-Ok-clause-connects : goal.returns-in-Ok-clause-connects
returns-in-Ok-clause-connects g c =
    let asked = rw (c.in-Ok.is) at c.turn_by-writer.ensures.asks c.requires.opens (omega (arith, c.requires.slot_pollers))
    (omega (arith, c.requires.slot_pollers, c.requires.few)) in
    asked_first _ _ _ _ c.serve_after-served.result c.requires.slot_pollers asked c.serve_after-served.ensures.connects

pub returns-in-Ok-clause-each_link_served_once : goal.returns-in-Ok-clause-each_link_served_once
returns-in-Ok-clause-each_link_served_once g c =
    let turn = rw (c.in-Ok.is) at c.turn_by-writer.ensures.polls c.requires.opens (omega (arith, c.requires.slot_pollers))
    (omega (arith, c.requires.slot_pollers, c.requires.few)) in
    each_after_turn (record {
      duty = c.args.poller;
      opening = installed_by c.args.writer;
      edition = c.args.writer.known.opening;
      workers = length c.args.readers.items;
    }) _ _ _ _ _ _ _ c.serve_after-served.result turn c.turn_by-writer.ensures.same refl _ _
    c.turn_by-writer.ensures.origin.1 c.leads_here.ensures c.serve_after-served.ensures.each_link_served_once
