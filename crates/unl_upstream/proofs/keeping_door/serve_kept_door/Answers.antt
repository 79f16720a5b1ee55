use Rattle.std.proofs.Common.{[], refl, rules}
use Rattle.unl_server.specs.Linked.{linking}
use Rattle.unl_upstream.specs.Kept.{kept_state}
use Rattle.unl_upstream.specs.KeptLinks.{ServesAllKeptLinks}
use Rattle.unl_upstream.specs.KeptServing.{ServesKept, KeptServingRunsOut, ServesKeptRequest, kept_in}
use Rattle.unl_upstream.proofs.Carrying.{holds_on, holds_same}
use Rattle.unl_upstream.proofs.Linking.{door_links_served}
use Rattle.unl_upstream.proofs.keeping_door.serve_kept_door.Goals as goal

pub returns-clause-serves_links : goal.returns-clause-serves_links
returns-clause-serves_links g c =
    let after = c.serve_door-served.new.server in
    let fact : ServesAllKeptLinks c.serve_door-served.result
    (linking (kept_state c.args.up.now (g.K.Keeper.state c.args.keeper.now)) (g.R.Draws.coming c.args.draws.now) (g.D.Door.state c.args.door.now))
    (linking (kept_in g.K.Keeper.state after) (g.R.Draws.coming c.serve_door-served.new.draws) (g.D.Door.state c.serve_door-served.new.door)) =
    door_links_served ServesKeptRequest KeptServingRunsOut ServesKept (kept_in g.K.Keeper.state) c.serve_door-served.result _ _ c.serve_door-served.ensures.serves in
    search rules

pub returns-clause-carries : goal.returns-clause-carries
returns-clause-carries g c =
    let after = c.serve_door-served.new.server in
    let start = kept_state c.args.up.now (g.K.Keeper.state c.args.keeper.now) in
    let last = kept_in g.K.Keeper.state after in
    holds_same start last _ _
    (holds_on start last (g.met.K.Keeper.at_least c.args.keeper.now) (c.serve_door-served.ensures.keeps.2 start (record { tried = []; keeps = refl })))
    (search rules) (search rules)
