use Rattle.std.proofs.Common.{ap, ◌∙◌}
use Rattle.std.proofs.lemmas.Result.{IfOk-weaker}
use Rattle.unl_delta.proofs.InPlace.{parts_seen, replaced_is, inserted_is}
use Rattle.unl_delta.proofs.keyed.put_in_place.Goals as goal

pub returns-then-has_key_at : goal.returns-then-has_key_at
returns-then-has_key_at g c =
    let key = g.T.Keyed.key in
    let ranks = g.T.Key.Key.ranks in
    let item = c.args.item in
    let items = c.args.items in
    let place = c.place_of-place.result in
    let parts = parts_seen key (key item) items c.as_slice.result.now c.as_slice-2.result.now (ranks c.key.result.now) (ranks c.key-2.result.now)
    place c.has_key_at.result _ c.requires c.as_slice.ensures c.as_slice-2.ensures (c.key.ensures ∙ ap key c.get.ensures)
    (c.key-2.ensures ∙ ap key c.get-2.ensures) c.place_of-place.ensures.place c.has_key_at.ensures c.if-has_key_at.true in
    c.replaced.ensures ∙ replaced_is key item items place parts

pub returns : goal.returns
returns g c =
    let key = g.T.Keyed.key in
    let ranks = g.T.Key.Key.ranks in
    let item = c.args.item in
    let items = c.args.items in
    let place = c.place_of-place.result in
    let parts = parts_seen key (key item) items c.as_slice.result.now c.as_slice-2.result.now (ranks c.key.result.now) (ranks c.key-2.result.now)
    place c.has_key_at.result _ c.requires c.as_slice.ensures c.as_slice-2.ensures (c.key.ensures ∙ ap key c.get.ensures)
    (c.key-2.ensures ∙ ap key c.get-2.ensures) c.place_of-place.ensures.place c.has_key_at.ensures c.if-has_key_at.false in
    IfOk-weaker c.inserted.result _ _ (λ new is. is ∙ inserted_is key item items place parts) c.inserted.ensures
