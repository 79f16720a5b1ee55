use Rattle.std.proofs.Common.{◌++◌, ap, ◌∙◌}
use Rattle.unl_delta.specs.State.{number_of, entries_on, later}
use Rattle.unl_delta.proofs.Formed.{changed_never_falls}
use Rattle.unl_delta.proofs.applying.go_on.Goals as goal

pub windowed-requires : goal.windowed-requires
windowed-requires c =
    let version = c.args.version.now in
    let fresh = later number_of version.number c.args.events.now in
    let first = c.of-first.ensures ∙ c.in_ok-copy.ensures in
    let new = c.as_slice.ensures ∙ c.in_ok-state.ensures.entries ∙ ap (λ xs. xs ++ entries_on c.of-first.result fresh) c.new-new.ensures ∙ ap (λ state. entries_on state fresh) first in
    changed_never_falls version c.args.events.now c.in_ok-entries.entries (c.in_ok-entries.ensures ∙ ap (λ xs. version.entries ++ xs) new) c.requires.version.order c.requires.numbers
