use Rattle.std.proofs.Common.{◌≡◌, ◌∙◌, false, inl, inr, refl, rules, sym, true}
use Rattle.std.specs.Prelude.{is_ok}
use Rattle.unl_base.proofs.Listening.{listens_after}
use Rattle.unl_edge.specs.EdgeServices.{service_at}
use Rattle.unl_edge.proofs.ServingEachLink.{serves_at}
use Rattle.unl_edge.proofs.Closing.{port_of_links, closes_at, failed_ends, hands_links, hands_none, listened_at_last}
use Rattle.unl_edge.proofs.Closing.{none_served, once_err, once_ok, stopped_early, printed_ends}
use Rattle.unl_upstream.proofs.AfterLines.{listened_nowhere}
use Rattle.unl_edge.proofs.edges.serve_links.Goals as goal

pub serve_service-requires-clause-listens : goal.serve_service-requires-clause-listens
serve_service-requires-clause-listens g c κs within =
    let could : is_ok c.listen.result ≡ true = search rules in listens_after _ _ _ _ could c.listen.ensures.listens

pub returns-then-is_err-clause-ends : goal.returns-then-is_err-clause-ends
returns-then-is_err-clause-ends g c =
    let couldnt : is_ok c.listen.result ≡ false = search rules in
    failed_ends (service_at c.args.poller c.args.board c.args.workers) c.args.port 0 _ _ _ (sym c.world.view_is)
    (hands_none _ _ _ _ c.listen.ensures.listens refl) none_served (inl (refl, listened_nowhere _ _ _ _ couldnt c.listen.ensures.listens)) refl

pub returns-in-Err-Spawner-clause-ends : goal.returns-in-Err-Spawner-clause-ends
returns-in-Err-Spawner-clause-ends g c =
    let could : is_ok c.listen.result ≡ true = search rules in
    failed_ends (service_at c.args.poller c.args.board c.args.workers) c.args.port 0 _ _ _ (sym c.world.view_is)
    (hands_none _ _ _ _ (c.in-Err-Spawner.ensures.accepts ∙ c.listen.ensures.listens) refl) none_served
    (inr (listened_at_last _ _ _ _ _ could c.listen.ensures.listens c.in-Err-Spawner.ensures.accepts)) refl

pub returns-in-Err-Memory-clause-ends : goal.returns-in-Err-Memory-clause-ends
returns-in-Err-Memory-clause-ends g c =
    let could : is_ok c.listen.result ≡ true = search rules in
    stopped_early (service_at c.args.poller c.args.board c.args.workers) c.args.port _ _ _ (sym c.world.view_is)
    (hands_none _ _ _ _ (c.in-Err-Memory.ensures.accepts ∙ c.listen.ensures.listens) refl)
    (inr (listened_at_last _ _ _ _ _ could c.listen.ensures.listens c.in-Err-Memory.ensures.accepts)) refl

-- the door failed
pub returns-in-Err-clause-ends : goal.returns-in-Err-clause-ends
returns-in-Err-clause-ends g c =
    let could : is_ok c.listen.result ≡ true = search rules in
    let serves = serves_at _ _ _ _ _ _ _ _ _ could c.listen.ensures.listens c.in-Ok.ensures.each_link_served_once in
    failed_ends (service_at c.args.poller c.args.board c.args.workers) c.args.port c.in-Ok.accepted.links _ _ _ (sym c.world.view_is)
    (hands_links _ _ _ _ _ _ c.listen.ensures.listens c.in-Ok.ensures.accepts.hands refl) (λ some. (c.in-Ok.ensures.connects, serves))
    (inr (port_of_links _ _ _ _ _ _ could c.listen.ensures.listens c.in-Ok.ensures.accepts.hands)) refl

pub returns-in-Err-clause-caused : goal.returns-in-Err-clause-caused
returns-in-Err-clause-caused g c =
    let rose = once_err c.in-Ok.accepted.door c.in-Err.field-0 c.in-Err.is c.in-Ok.ensures.causes.door in search rules

-- the door was closed
pub returns-in-Ok-door-clause-ends : goal.returns-in-Ok-door-clause-ends
returns-in-Ok-door-clause-ends g c =
    let could : is_ok c.listen.result ≡ true = search rules in
    let serves = serves_at _ _ _ _ _ _ _ _ _ could c.listen.ensures.listens c.in-Ok.ensures.each_link_served_once in
    let closed = once_ok c.in-Ok.accepted.door c.in-Ok-door.field-0 c.in-Ok-door.is c.in-Ok.ensures.accepts.closed in
    printed_ends _ c.args.port c.in-Ok.accepted.links c.print_connections.result c.of_line.result _ _ _ c.of_line.ensures
    (sym c.world.view_is) (hands_links _ _ _ _ _ _ c.listen.ensures.listens c.in-Ok.ensures.accepts.hands refl)
    (c.in-Ok.ensures.connects, serves) c.print_connections.ensures.said
    (closes_at _ _ _ _ _ _ could c.listen.ensures.listens c.in-Ok.ensures.accepts.hands closed)

pub returns-then-is_err-clause-frame : goal.returns-then-is_err-clause-frame
returns-then-is_err-clause-frame g c = rw (← c.world.view_is) refl

pub returns-in-Ok-door-clause-frame : goal.returns-in-Ok-door-clause-frame
returns-in-Ok-door-clause-frame g c = rw (← c.world.view_is) refl

pub returns-in-Err-clause-frame : goal.returns-in-Err-clause-frame
returns-in-Err-clause-frame g c = rw (← c.world.view_is) refl

pub returns-in-Err-Spawner-clause-frame : goal.returns-in-Err-Spawner-clause-frame
returns-in-Err-Spawner-clause-frame g c = rw (← c.world.view_is) refl

pub returns-in-Err-Memory-clause-frame : goal.returns-in-Err-Memory-clause-frame
returns-in-Err-Memory-clause-frame g c = rw (← c.world.view_is) refl
