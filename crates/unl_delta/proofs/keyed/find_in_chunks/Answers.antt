use Rattle.std.proofs.Common.{◌≡◌, None, Some, map, sym, subst, ◌∙◌}
use Rattle.std.specs.Prelude.{slice_get}
use Rattle.unl_documents.specs.Parameters.{AreRising}
use Rattle.unl_delta.proofs.Chunks.{find_at_end, find_in_chunk, held}
use Rattle.unl_delta.proofs.keyed.find_in_chunks.Goals as goal

pub found-requires : goal.found-requires
found-requires g c =
    let key = g.T.Keyed.key in
    let k = g.T.Key.Key.ranks c.args.key.now in
    let here : Some c.in-Some.chunk.now ≡ slice_get c.chunks-chunks.result.now c.chunk_of.result = rw c.in-Some.is at c.chunk_at.ensures in
    let h = held key k c.chunks-chunks.result.now c.args.items.now c.chunk_of.result c.in-Some.chunk.now
    c.chunks-chunks.ensures.full c.chunks-chunks.ensures.items c.requires c.chunk_of.ensures (sym here) in
    subst (λ xs. AreRising (map key xs)) (sym c.as_slice.ensures) h.rising

pub returns-in-None : goal.returns-in-None
returns-in-None g c =
    let key = g.T.Keyed.key in
    let k = g.T.Key.Key.ranks c.args.key.now in
    let none : None ≡ slice_get c.chunks-chunks.result.now c.chunk_of.result = rw c.in-None.is at c.chunk_at.ensures in
    find_at_end key k c.chunks-chunks.result.now c.args.items.now c.chunk_of.result
    c.chunks-chunks.ensures.full c.chunks-chunks.ensures.items c.requires c.chunk_of.ensures (sym none)

pub returns-in-Some : goal.returns-in-Some
returns-in-Some g c =
    let key = g.T.Keyed.key in
    let k = g.T.Key.Key.ranks c.args.key.now in
    let here : Some c.in-Some.chunk.now ≡ slice_get c.chunks-chunks.result.now c.chunk_of.result = rw c.in-Some.is at c.chunk_at.ensures in
    let h = held key k c.chunks-chunks.result.now c.args.items.now c.chunk_of.result c.in-Some.chunk.now
    c.chunks-chunks.ensures.full c.chunks-chunks.ensures.items c.requires c.chunk_of.ensures (sym here) in
    rw c.as_slice.ensures at c.found.ensures ∙ find_in_chunk key k c.chunks-chunks.result.now c.args.items.now c.chunk_of.result c.in-Some.chunk.now h c.chunks-chunks.ensures.items
