use Rattle.std.proofs.Common.{◌≡◌, Some, None, sym, ap, ◌∙◌}
use Rattle.std.specs.List.Sorted.{IsPermutation}
use Rattle.std.proofs.lemmas.List.Sorted.{All-permutation}
use Rattle.unl_documents.specs.declared.fault.BadDocument.TheVariants.{DuplicateName}
use Rattle.unl_documents.specs.Sorting.{first_tie}
use Rattle.unl_documents.proofs.Ties.{least_before, sorting_of}
use Rattle.unl_documents.proofs.sorting.in_their_order.Goals as goal

pub returns-in-Some-clause-twice : goal.returns-in-Some-clause-twice
returns-in-Some-clause-twice g c = λ _.
    let xs = c.args.items in
    let ys = c.sort.new.items.items in
    let moved : IsPermutation xs ys = rw (← c.into_vec-items.ensures) c.in_ok-sort.ensures.same in
    let tie : first_tie g.K.Sortable.key ys ≡ Some c.in-Some.item.now = ap (first_tie g.K.Sortable.key) (sym c.as_slice.ensures.value) ∙ sym c.in-Some.ensures in
    (g.K.Sortable.key c.in-Some.item.now, least_before g.K.Sortable.key xs ys c.in-Some.item.now moved c.in_ok-sort.ensures.sorted tie, ap (DuplicateName c.args.field) c.in_ok-key.ensures)

pub returns-clause-sorted : goal.returns-clause-sorted
returns-clause-sorted g c =
    let xs = c.args.items in
    let ys = c.sort.new.items.items in
    let moved : IsPermutation xs ys = rw (← c.into_vec-items.ensures) c.in_ok-sort.ensures.same in
    let none : first_tie g.K.Sortable.key ys ≡ None = ap (first_tie g.K.Sortable.key) (sym c.as_slice.ensures.value) ∙ sym c.in_default.ensures in
    rw c.in_ok-share.ensures (sorting_of g.K.Sortable.key xs ys moved c.in_ok-sort.ensures.sorted none)

pub returns-clause-valid : goal.returns-clause-valid
returns-clause-valid g c = λ all.
    let xs = c.args.items in
    let ys = c.sort.new.items.items in
    let moved : IsPermutation xs ys = rw (← c.into_vec-items.ensures) c.in_ok-sort.ensures.same in
    rw c.in_ok-share.ensures (All-permutation g.K.Sortable.is_valid xs ys moved all)
