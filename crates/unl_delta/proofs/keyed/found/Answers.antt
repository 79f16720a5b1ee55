use Rattle.std.proofs.Common.{◌∙◌}
use Rattle.unl_delta.proofs.InPlace.{found_at}
use Rattle.unl_delta.proofs.Order.{rises_from_rising}
use Rattle.unl_delta.proofs.keyed.found.Goals as goal

pub returns : goal.returns
returns g c =
    let items = c.args.items.now in
    let key = g.T.Keyed.key in
    c.item_at.ensures ∙ found_at key (g.T.Key.Key.ranks c.args.key.now) items c.place_of.result (rises_from_rising key items c.requires) c.place_of.ensures.place
