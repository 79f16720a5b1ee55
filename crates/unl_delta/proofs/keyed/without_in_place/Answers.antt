use Rattle.std.proofs.Common.{refl, ◌∙◌}
use Rattle.unl_delta.proofs.InPlace.{parts_seen, removed_is, none_is}
use Rattle.unl_delta.proofs.keyed.without_in_place.Goals as goal

pub returns-then-has_key_at : goal.returns-then-has_key_at
returns-then-has_key_at g c =
    let key = g.T.Keyed.key in
    let k = g.T.Key.Key.ranks c.args.key.now in
    let items = c.args.items in
    let place = c.place_of-place.result in
    let parts = parts_seen key k items c.as_slice.result.now c.as_slice-2.result.now k k place c.has_key_at.result _ c.requires
    c.as_slice.ensures c.as_slice-2.ensures refl refl c.place_of-place.ensures.place c.has_key_at.ensures c.if-has_key_at.true in
    c.removed.ensures ∙ removed_is key k items place parts

pub returns : goal.returns
returns g c =
    let key = g.T.Keyed.key in
    let k = g.T.Key.Key.ranks c.args.key.now in
    let items = c.args.items in
    let place = c.place_of-place.result in
    let parts = parts_seen key k items c.as_slice.result.now c.as_slice-2.result.now k k place c.has_key_at.result _ c.requires
    c.as_slice.ensures c.as_slice-2.ensures refl refl c.place_of-place.ensures.place c.has_key_at.ensures c.if-has_key_at.false in
    none_is key k items place parts
