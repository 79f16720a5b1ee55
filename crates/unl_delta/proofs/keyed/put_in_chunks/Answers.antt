use Rattle.std.proofs.Common.{◌≡◌, ◌≤◌, ◌∷◌, ◌++◌, [], None, length, sym, ap, ◌∙◌}
use Rattle.std.specs.Prelude.{slice_get}
use Rattle.std.specs.List.{prefix_len}
use Rattle.std.proofs.lemmas.Option.{slice_get_past}
use Rattle.std.proofs.lemmas.Result.{IfOk-weaker}
use Rattle.unl_delta.specs.Keyed.{ends_before}
use Rattle.unl_delta.proofs.Chunks.{put_at_end, put_in_chunk, put_back, held, removed_chunk}
use Rattle.unl_delta.proofs.keyed.put_in_chunks.Goals as goal

pub returns-then-place-len : goal.returns-then-place-len
returns-then-place-len g c =
    let key = g.T.Keyed.key in
    let chunks = c.into_chunks-chunks.result in
    let place = c.chunk_for-place.result in
    let is = c.chunk_for-place.ensures ∙ ap (prefix_len (ends_before key (key c.args.item))) c.as_slice.ensures in
    let past : length chunks ≤ place = rw (← c.len.ensures) c.if-place-len.true in
    let none : slice_get chunks place ≡ None = slice_get_past chunks place past in
    let end = put_at_end key c.args.item chunks c.args.items place c.into_chunks-chunks.ensures.full c.into_chunks-chunks.ensures.items c.requires is none in
    let same = c.from_chunks.ensures ∙ c.into_chunks-chunks.ensures.items in
    IfOk-weaker c.append-then-place-len.result _ _ (λ new so. so ∙ ap (λ xs. xs ++ c.args.item ∷ []) same ∙ end) c.append-then-place-len.ensures

pub put_in_place-requires : goal.put_in_place-requires
put_in_place-requires g c =
    let key = g.T.Keyed.key in
    let is = c.chunk_for-place.ensures ∙ ap (prefix_len (ends_before key (key c.args.item))) c.as_slice.ensures in
    (held key (key c.args.item) c.into_chunks-chunks.result c.args.items c.chunk_for-place.result c.in_ok-chunk.chunk c.into_chunks-chunks.ensures.full c.into_chunks-chunks.ensures.items c.requires is (sym c.in_ok-chunk.ensures.chunk)).rising

pub with_chunk-requires-clause-full : goal.with_chunk-requires-clause-full
with_chunk-requires-clause-full g c =
    (removed_chunk c.into_chunks-chunks.result c.chunks.inside.vec.items c.chunk_for-place.result c.into_chunks-chunks.ensures.full (c.chunks.view_is ∙ c.in_ok-chunk.ensures.others)).full

pub returns : goal.returns
returns g c =
    let key = g.T.Keyed.key in
    let item = c.args.item in
    let chunks = c.into_chunks-chunks.result in
    let place = c.chunk_for-place.result in
    let chunk = c.in_ok-chunk.chunk in
    let changed = c.in_ok-put_in_place.field-0 in
    let is = c.chunk_for-place.ensures ∙ ap (prefix_len (ends_before key (key item))) c.as_slice.ensures in
    let h = held key (key item) chunks c.args.items place chunk c.into_chunks-chunks.ensures.full c.into_chunks-chunks.ensures.items c.requires is (sym c.in_ok-chunk.ensures.chunk) in
    let all = put_in_chunk key item chunks c.args.items place chunk changed h c.into_chunks-chunks.ensures.items c.in_ok-put_in_place.ensures in
    let others = removed_chunk chunks c.chunks.inside.vec.items place c.into_chunks-chunks.ensures.full (c.chunks.view_is ∙ c.in_ok-chunk.ensures.others) in
    IfOk-weaker c.with_chunk.result _ _ (λ new so. so ∙ put_back chunks c.chunks.inside.vec.items place changed _ others all) c.with_chunk.ensures
