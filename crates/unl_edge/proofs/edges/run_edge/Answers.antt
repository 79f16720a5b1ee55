use Rattle.std.proofs.Common.{inl, refl, sym}
use Rattle.unl_edge.proofs.Closing.{begun_ends, stops_at_once}
use Rattle.unl_edge.proofs.edges.run_edge.Goals as goal

pub returns-in-Ok-clause-runs : goal.returns-in-Ok-clause-runs
returns-in-Ok-clause-runs g c =
    begun_ends c.args.words.now _ _ c.serve_links.result _ _ _ c.draw-boot.result _ c.in-Ok.ensures.poller c.in-Ok.ensures.board
    (sym c.world.view_is) c.draw-boot.ensures.drawn c.serve_links.ensures.ends

pub returns-in-Err-clause-runs : goal.returns-in-Err-clause-runs
returns-in-Err-clause-runs g c = inl (stops_at_once _ _ _ _ (sym c.world.view_is) refl refl refl)

pub returns-in-Ok-clause-frame : goal.returns-in-Ok-clause-frame
returns-in-Ok-clause-frame g c = rw (← c.world.view_is) c.serve_links.ensures.frame

pub returns-in-Err-clause-frame : goal.returns-in-Err-clause-frame
returns-in-Err-clause-frame g c = rw (← c.world.view_is) refl
