use Rattle.std.proofs.Common.{◌≡◌, Some, None, refl, sym, ◌∙◌}
use Rattle.std.specs.Prelude.{slice_get}
use Rattle.unl_delta.proofs.Chunks.{find_at_end, find_in_chunk, held}
use Rattle.unl_documents.specs.Chunks.{joined}
use Rattle.unl_documents.specs.States.{name_key}
use Rattle.unl_compiled.proofs.seen.feature_among.Goals as goal

pub feature_in-requires : goal.feature_in-requires
feature_in-requires c =
    let chunks = c.args.chunks.now in
    let here : Some c.in-Some.chunk.now ≡ slice_get chunks c.chunk_of.result = rw c.in-Some.is at c.chunk_at.ensures in
    (held name_key c.args.name.now chunks (joined chunks) c.chunk_of.result c.in-Some.chunk.now c.requires.full refl c.requires.rising c.chunk_of.ensures (sym here)).rising

pub returns-in-None : goal.returns-in-None
returns-in-None c =
    let chunks = c.args.chunks.now in
    let none : None ≡ slice_get chunks c.chunk_of.result = rw c.in-None.is at c.chunk_at.ensures in
    find_at_end name_key c.args.name.now chunks (joined chunks) c.chunk_of.result c.requires.full refl c.requires.rising c.chunk_of.ensures (sym none)

pub returns-in-Some : goal.returns-in-Some
returns-in-Some c =
    let chunks = c.args.chunks.now in
    let name = c.args.name.now in
    let here : Some c.in-Some.chunk.now ≡ slice_get chunks c.chunk_of.result = rw c.in-Some.is at c.chunk_at.ensures in
    let h = held name_key name chunks (joined chunks) c.chunk_of.result c.in-Some.chunk.now c.requires.full refl c.requires.rising c.chunk_of.ensures (sym here) in
    c.feature_in.ensures ∙ find_in_chunk name_key name chunks (joined chunks) c.chunk_of.result c.in-Some.chunk.now h refl
