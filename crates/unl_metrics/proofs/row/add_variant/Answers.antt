use Rattle.std.proofs.Common.{◌≡◌, map, nat_cmp, true, false, rules}
use Rattle.std.specs.Cmp.Lexicographic.{slice_cmp}
use Rattle.std.specs.Option.{option_map_or}
use Rattle.std.specs.Ordering.{is_eq}
use Rattle.std.specs.Prelude.{slice_get}
use Rattle.unl_metrics.specs.declared.report.VariantCount.{VariantCount}
use Rattle.unl_metrics.specs.Book.{pair, place}
use Rattle.unl_metrics.proofs.Variants.{count_new, count_old}
use Rattle.unl_metrics.proofs.row.add_variant.Goals as goal

pub returns-then-is_at : goal.returns-then-is_at
returns-then-is_at c =
    let counts = c.args.counts.now.items in
    let v = c.args.count.now in
    let here : c.place_of-place.result ≡ place (slice_cmp nat_cmp) v.name (map pair counts) = search rules in
    let found : option_map_or (λ (w : VariantCount). is_eq (slice_cmp nat_cmp w.name v.name)) (slice_get counts c.place_of-place.result) false ≡ true = search rules in
    count_old counts v c.index_mut.result.now c.index.result.now c.place_of-place.result c.sum.result here found c.index_mut.ensures.value c.index.ensures c.sum.ensures

pub returns : goal.returns
returns c =
    let counts = c.args.counts.now.items in
    let v = c.args.count.now in
    let here : c.place_of-place.result ≡ place (slice_cmp nat_cmp) v.name (map pair counts) = search rules in
    let free : option_map_or (λ (w : VariantCount). is_eq (slice_cmp nat_cmp w.name v.name)) (slice_get counts c.place_of-place.result) false ≡ false = search rules in
    rw (c.in_ok-insert.ensures.items, c.in_ok-copy.ensures) (count_new counts v c.place_of-place.result c.requires here free)
