use Rattle.std.proofs.Common.{◌≡◌, ◌+◌, List, Some, None, length, map, refl, sym, ap, subst, ◌∙◌}
use Rattle.std.specs.Prelude.{slice_get}
use Rattle.std.specs.List.{prefix_len}
use Rattle.std.proofs.lemmas.List.Sums.{prefix_len-le-length}
use Rattle.std.proofs.lemmas.Result.{IfOk-weaker}
use Rattle.unl_constraints.proofs.Searching.{is_below}
use Rattle.unl_delta.specs.Keyed.{ends_before}
use Rattle.unl_delta.proofs.Chunks.{held}
use Rattle.unl_documents.specs.declared.feature.Feature.{Feature}
use Rattle.unl_documents.specs.Parameters.{AreRising}
use Rattle.unl_documents.specs.Chunks.{joined}
use Rattle.unl_documents.specs.States.{name_key}
use Rattle.unl_compiled.proofs.InChunks.{place_at_end, place_in_chunk}
use Rattle.unl_compiled.proofs.seen.place_among.Goals as goal

pub first-requires : goal.first-requires
first-requires c = rw c.chunk_of-place.ensures (prefix_len-le-length (ends_before name_key c.args.name.now) c.args.chunks.now)

pub place_of-requires : goal.place_of-requires
place_of-requires c =
    let chunks = c.args.chunks.now in
    let here : Some c.in-Some.chunk.now ≡ slice_get chunks c.chunk_of-place.result = rw c.in-Some.is at c.chunk_at.ensures in
    let h = held name_key c.args.name.now chunks (joined chunks) c.chunk_of-place.result c.in-Some.chunk.now c.requires.full refl c.requires.rising c.chunk_of-place.ensures (sym here) in
    subst (λ (fs : List Feature). AreRising (map name_key fs)) (sym c.as_slice.ensures) h.rising

pub returns-in-None : goal.returns-in-None
returns-in-None c =
    let chunks = c.args.chunks.now in
    let place = c.chunk_of-place.result in
    let none : None ≡ slice_get chunks place = rw c.in-None.is at c.chunk_at.ensures in
    c.in_ok-before.ensures ∙ ap (λ (rs : List (List Feature)). length (joined rs)) c.first.ensures
    ∙ sym (place_at_end name_key c.args.name.now chunks place c.requires.full c.requires.rising c.chunk_of-place.ensures none)

pub returns-in-Some : goal.returns-in-Some
returns-in-Some c =
    let chunks = c.args.chunks.now in
    let name = c.args.name.now in
    let place = c.chunk_of-place.result in
    let chunk = c.in-Some.chunk.now in
    let here : Some chunk ≡ slice_get chunks place = rw c.in-Some.is at c.chunk_at.ensures in
    let h = held name_key name chunks (joined chunks) place chunk c.requires.full refl c.requires.rising c.chunk_of-place.ensures (sym here) in
    let before = c.in_ok-before.ensures ∙ ap (λ (rs : List (List Feature)). length (joined rs)) c.first.ensures in
    let within = c.place_of.ensures ∙ ap (prefix_len (is_below name_key name)) c.as_slice.ensures in
    IfOk-weaker c.checked_sum.result _ _ (λ sum is. is ∙ (λ i. before i + within i) ∙ sym (place_in_chunk name_key name chunks place chunk h)) c.checked_sum.ensures
