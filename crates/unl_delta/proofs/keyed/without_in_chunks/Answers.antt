use Rattle.std.proofs.Common.{◌≡◌, ◌≤◌, None, length, sym, ap, ◌∙◌}
use Rattle.std.specs.Prelude.{slice_get}
use Rattle.std.specs.List.{prefix_len}
use Rattle.std.proofs.lemmas.Option.{slice_get_past}
use Rattle.std.proofs.lemmas.Result.{IfOk-weaker}
use Rattle.unl_delta.specs.Keyed.{ends_before}
use Rattle.unl_delta.proofs.Chunks.{without_at_end, without_in_chunk, put_back, held, removed_chunk}
use Rattle.unl_delta.proofs.keyed.without_in_chunks.Goals as goal

pub returns-then-place-len : goal.returns-then-place-len
returns-then-place-len g c =
    let key = g.T.Keyed.key in
    let k = g.T.Key.Key.ranks c.args.key.now in
    let chunks = c.into_chunks-chunks.result in
    let place = c.chunk_of-place.result in
    let is = c.chunk_of-place.ensures ∙ ap (prefix_len (ends_before key k)) c.as_slice.ensures in
    let past : length chunks ≤ place = rw (← c.len.ensures) c.if-place-len.true in
    let none : slice_get chunks place ≡ None = slice_get_past chunks place past in
    let end = without_at_end key k chunks c.args.items place c.into_chunks-chunks.ensures.full c.into_chunks-chunks.ensures.items c.requires is none in
    c.from_chunks.ensures ∙ c.into_chunks-chunks.ensures.items ∙ end

pub without_in_place-requires : goal.without_in_place-requires
without_in_place-requires g c =
    let key = g.T.Keyed.key in
    let k = g.T.Key.Key.ranks c.args.key.now in
    let is = c.chunk_of-place.ensures ∙ ap (prefix_len (ends_before key k)) c.as_slice.ensures in
    (held key k c.into_chunks-chunks.result c.args.items c.chunk_of-place.result c.in_ok-chunk.chunk c.into_chunks-chunks.ensures.full c.into_chunks-chunks.ensures.items c.requires is (sym c.in_ok-chunk.ensures.chunk)).rising

pub with_chunk-requires-clause-full : goal.with_chunk-requires-clause-full
with_chunk-requires-clause-full g c =
    (removed_chunk c.into_chunks-chunks.result c.take_chunk.new.chunks c.chunk_of-place.result c.into_chunks-chunks.ensures.full c.in_ok-chunk.ensures.others).full

pub returns : goal.returns
returns g c =
    let key = g.T.Keyed.key in
    let k = g.T.Key.Key.ranks c.args.key.now in
    let chunks = c.into_chunks-chunks.result in
    let place = c.chunk_of-place.result in
    let chunk = c.in_ok-chunk.chunk in
    let changed = c.without_in_place.result in
    let is = c.chunk_of-place.ensures ∙ ap (prefix_len (ends_before key k)) c.as_slice.ensures in
    let h = held key k chunks c.args.items place chunk c.into_chunks-chunks.ensures.full c.into_chunks-chunks.ensures.items c.requires is (sym c.in_ok-chunk.ensures.chunk) in
    let all = without_in_chunk key k chunks c.args.items place chunk changed h c.into_chunks-chunks.ensures.items c.without_in_place.ensures in
    let others = removed_chunk chunks c.take_chunk.new.chunks place c.into_chunks-chunks.ensures.full c.in_ok-chunk.ensures.others in
    IfOk-weaker c.with_chunk.result _ _ (λ new so. so ∙ put_back chunks c.take_chunk.new.chunks place changed _ others all) c.with_chunk.ensures
