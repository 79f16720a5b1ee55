use Rattle.std.proofs.Common.{List, ℕ, Some, refl, ap, ◌∙◌}
use Rattle.std.specs.Prelude.{option_map}
use Rattle.std.specs.List.{prefix_len}
use Rattle.std.proofs.lemmas.Result.{IfOk-weaker}
use Rattle.unl_compiled.specs.Moving.{Change}
use Rattle.unl_compiled.proofs.Shifts.{index_with}
use Rattle.unl_constraints.proofs.Searching.{is_below}
use Rattle.unl_documents.specs.States.{name_key}
use Rattle.unl_compiled.proofs.index_after.places_with.Goals as goal

pub returns : goal.returns
returns c =
    let feature = c.args.feature.now in
    let features = c.args.parts.now.features in
    let change : Change = record { place = c.in_ok-place_named.field-0; removed = option_map (λ t. t.now) c.project_of.result; inserted = Some feature.project } in
    let at = c.in_ok-place_named.ensures ∙ ap (λ (name : List ℕ). prefix_len (is_below name_key name) features) c.as_str.ensures in
    let done = index_with feature features change c.args.projects.now c.in_ok-changed.field-0 c.requires.order at c.project_of.ensures refl c.requires.projects (rw c.as_slice.ensures at c.in_ok-changed.ensures) in
    IfOk-weaker c.new.result _ _ (λ index is. rw is done) c.new.ensures
