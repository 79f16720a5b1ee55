use Rattle.std.proofs.Common.{◌≡◌, ◌∙◌, ℕ, List, [], arith, refl, subst, sym}
use Rattle.unl_server.proofs.DoorLemmas.{door_links_more, door_links_same}
use Rattle.unl_server.proofs.door.serve_door.Goals as goal

pub loop-served-init : goal.loop-served-init
loop-served-init g c = record {
  listens = c.requires.listens;
  ports = refl;
  fits = c.requires.fits;
  keeps = g.met.S.Server.keeps_itself _;
  serves = refl;
  later = omega arith;
}

pub loop-served-preserved : goal.loop-served-preserved
loop-served-preserved g c = record {
  listens = subst (λ (ports : List ℕ). ¬ (ports ≡ [])) (sym c.in-Ok-Served.ensures.ports) c.loop-served.invariant.listens;
  ports = c.in-Ok-Served.ensures.ports ∙ c.loop-served.invariant.ports;
  fits = c.in-Ok-Served.ensures.fits;
  keeps = g.met.S.Server.keeps_on _ _ _ c.loop-served.invariant.keeps c.in-Ok-Served.ensures.keeps;
  serves = door_links_more g.S.Server.serves c.loop-served.served _ _ _ c.loop-served.invariant.serves
      (rw (c.in-Ok-Served.field-0-is) at c.in-Ok-Served.ensures.serves);
  later = omega (arith, c.loop-served.invariant.later, c.in-Ok-Served.ensures.cause.later);
}

pub returns-in-Ok-Closed-clause-serves : goal.returns-in-Ok-Closed-clause-serves
returns-in-Ok-Closed-clause-serves g c =
    door_links_same g.S.Server.serves c.loop-served.served _ _ _ c.loop-served.invariant.serves
    (rw (c.in-Ok-Closed.field-0-is) at c.in-Ok-Closed.ensures.serves)

pub returns-in-Err-clause-serves : goal.returns-in-Err-clause-serves
returns-in-Err-clause-serves g c = (
  c.loop-served.served,
  door_links_same g.S.Server.serves c.loop-served.served _ _ _ c.loop-served.invariant.serves c.in-Err.ensures.serves,
)

pub returns-clause-serves : goal.returns-clause-serves
returns-clause-serves g c = absurd c.wait_forever.ensures

pub returns-clause-fits : goal.returns-clause-fits
returns-clause-fits g c = absurd c.wait_forever.ensures

pub returns-clause-keeps : goal.returns-clause-keeps
returns-clause-keeps g c = absurd c.wait_forever.ensures

pub returns-clause-ports : goal.returns-clause-ports
returns-clause-ports g c = absurd c.wait_forever.ensures

pub returns-clause-closed : goal.returns-clause-closed
returns-clause-closed g c = absurd c.wait_forever.ensures

pub returns-clause-cause : goal.returns-clause-cause
returns-clause-cause g c = absurd c.wait_forever.ensures
