use Rattle.std.proofs.Common.{◌++◌, ap, ◌∙◌}
use Rattle.unl_delta.specs.State.{entry_number, entries_on, later}
use Rattle.unl_delta.proofs.Formed.{hydrated_never_falls}
use Rattle.unl_delta.proofs.applying.from_hydration.Goals as goal

pub windowed-requires : goal.windowed-requires
windowed-requires c =
    let events = c.args.events.now in
    let new = c.in_ok-state.ensures.entries ∙ ap (λ xs. xs ++ entries_on c.of.result events) c.new-new.ensures ∙ ap (λ state. entries_on state events) c.of.ensures in
    let entries = c.in_ok-entries.ensures ∙ c.later.ensures ∙ ap (later entry_number c.args.number) new in
    hydrated_never_falls c.args.number c.args.state events c.in_ok-entries.entries entries c.requires.numbers
