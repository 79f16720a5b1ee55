use Rattle.std.proofs.Common.{List, ◌+◌, sym, subst, take}
use Rattle.unl_compiled.specs.Moving.{AllMoved}
use Rattle.unl_compiled.specs.declared.index.ProjectPlaces.{ProjectPlaces}
use Rattle.unl_compiled.proofs.Shifts.{moved_more}
use Rattle.unl_compiled.proofs.index_change.changed_each.Goals as goal

pub loop-entry-preserved : goal.loop-entry-preserved
loop-entry-preserved c =
    let change = c.args.change.now in
    let index = c.args.index.now in
    let i = c.loop-entry.entry-index in
    subst (λ (news : List ProjectPlaces). AllMoved change (take (i + 1) index) news) (sym c.in_ok-push.ensures.ok)
    (moved_more change index c.loop-entry.new i c.entry-item.result c.in_ok-changed_entry.field-0 c.loop-entry-test.true c.entry-item.is c.loop-entry.invariant c.in_ok-changed_entry.ensures)
