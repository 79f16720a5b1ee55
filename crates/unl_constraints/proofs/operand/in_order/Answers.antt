use Rattle.std.proofs.Common.{◌≡◌, sym, ap, ◌∙◌, nat_eq}
use Rattle.std.specs.Cmp.Lexicographic.{pointwise, texts_ties}
use Rattle.std.specs.List.{list_any, dedup}
use Rattle.std.proofs.lemmas.Cmp.{nat_list_cmp_total}
use Rattle.std.proofs.lemmas.List.Filters.{dedup_is}
use Rattle.std.proofs.lemmas.List.Kept.{IsStrictlySortedBy-dedup}
use Rattle.std.proofs.lemmas.List.Sorted.{list_any-IsPermutation}
use Rattle.unl_constraints.proofs.Values.{any_dedup}
use Rattle.unl_constraints.proofs.operand.in_order.Goals as goal

pub returns-clause-rising : goal.returns-clause-rising
returns-clause-rising c =
    let sorted = c.sort.new.self.items in
    let once : c.dedup.new.self.items ≡ dedup (pointwise nat_eq) sorted = dedup_is (pointwise nat_eq) sorted c.dedup.new.self.items c.dedup.ensures.filtered in
    rw (c.from_vec.ensures, once) (IsStrictlySortedBy-dedup nat_list_cmp_total texts_ties sorted c.in_ok-sort.ensures.sorted)

pub returns-clause-same : goal.returns-clause-same
returns-clause-same c = λ test.
    let sorted = c.sort.new.self.items in
    let once : c.dedup.new.self.items ≡ dedup (pointwise nat_eq) sorted = dedup_is (pointwise nat_eq) sorted c.dedup.new.self.items c.dedup.ensures.filtered in
    ap (list_any test) (c.from_vec.ensures ∙ once) ∙ any_dedup test sorted ∙ sym (list_any-IsPermutation test c.args.texts.items sorted c.in_ok-sort.ensures.permutation)
