use Rattle.std.proofs.Common.{◌≡◌, ◌<◌, List, ℕ, length, get_or, rules, sym, ap, ◌∙◌}
use Rattle.std.specs.Prelude.{slice_set}
use Rattle.std.specs.List.{prefix_len}
use Rattle.std.proofs.lemmas.Result.{on_ok_weaker}
use Rattle.unl_compiled.specs.Places.{listed}
use Rattle.unl_compiled.proofs.Projects.{differs, new_project, entry_more}
use Rattle.unl_compiled.proofs.index.add.Goals as goal

pub returns-then-slot-len : goal.returns-then-slot-len
returns-then-slot-len c =
    let index = c.args.index.now in
    let project = c.args.project.now in
    let slot : c.slot_of-slot.result ≡ prefix_len (differs project) index = rw (c.as_slice.ensures, c.as_str.ensures) at c.slot_of-slot.ensures.slot in
    let end : length index ≡ c.slot_of-slot.result = search rules in
    on_ok_weaker c.add_project.result (λ is p. ap (listed p) is ∙ new_project project p c.args.place index (end ∙ slot)) c.add_project.ensures

pub returns : goal.returns
returns c =
    let index = c.args.index.now in
    let project = c.args.project.now in
    let entry = c.get_mut.result.now in
    let place = c.slot_of-slot.result in
    let slot : place ≡ prefix_len (differs project) index = rw (c.as_slice.ensures, c.as_str.ensures) at c.slot_of-slot.ensures.slot in
    let inside : place < length index = search rules in
    let same : get_or index place entry ≡ entry = sym c.get_mut.ensures.value in
    on_ok_weaker c.push.result (λ is p. ap (λ (places : List ℕ). listed p (slice_set index place (record { project = entry.project; places = places }))) is
    ∙ entry_more project p c.args.place index entry place slot inside same) c.push.ensures.ok
