use Rattle.std.proofs.Common.{rules}
use Rattle.unl_server.specs.Conversation.{Converses}
use Rattle.unl_server.specs.Links.{link_view}
use Rattle.unl_server.proofs.ShowsLemmas.{Converses_seen}
use Rattle.unl_upstream.specs.Kept.{kept_state}
use Rattle.unl_upstream.specs.KeptServing.{ServesKept, KeptServingRunsOut, ServesKeptRequest, kept_in, kept_serving_state}
use Rattle.unl_upstream.proofs.KeptServed.{keeps_on, shows}
use Rattle.unl_upstream.proofs.keeping_server.serve_kept.Goals as goal

-- The facts after the conversation are about the values behind the references in its final state. These references are the
-- ones that were passed in.
pub returns-clause-converses : goal.returns-clause-converses
returns-clause-converses g c =
    let done = c.serve_requests-conversed in
    let fact : Converses ServesKeptRequest KeptServingRunsOut
    (link_view (g.L.Source.left c.args.link.now) (g.L.Sink.sent c.args.link.now) (g.L.Source.faults c.args.link.now))
    (kept_serving_state (kept_state c.args.up.now (g.K.Keeper.state c.args.keeper.now)) 0 (g.R.Draws.coming c.args.draws.now)) done.result.1
    (kept_serving_state (kept_in g.K.Keeper.state done.new.state) done.result.0 (g.R.Draws.coming done.new.draws)) done.result.0
    (link_view (g.L.Source.left done.new.link) (g.L.Sink.sent done.new.link) (g.L.Source.faults done.new.link)) =
    Converses_seen _ done.result.1 done.result.0 _ (shows (kept_in g.K.Keeper.state) _ _) done.ensures.converses in
    search rules

pub returns-clause-keeps : goal.returns-clause-keeps
returns-clause-keeps g c =
    let done = c.serve_requests-conversed in
    let fact : ServesKept (kept_serving_state (kept_state c.args.up.now (g.K.Keeper.state c.args.keeper.now)) 0 (g.R.Draws.coming c.args.draws.now))
    done.result.1 done.result.0
    (kept_serving_state (kept_in g.K.Keeper.state done.new.state) done.result.0 (g.R.Draws.coming done.new.draws)) =
    keeps_on _ _ done.result.1 done.result.0 (g.met.K.Keeper.at_least c.args.keeper.now)
    (Converses_seen _ done.result.1 done.result.0 _ (shows (kept_in g.K.Keeper.state) _ _) done.ensures.converses).answered in
    search rules
