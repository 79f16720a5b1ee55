use Rattle.std.proofs.Common.{List, ℕ, ◌<◌, length, rules, ap, ◌∙◌}
use Rattle.std.specs.Prelude.{slice_index_or, slice_set}
use Rattle.unl_compiled.specs.Moving.{shifted}
use Rattle.unl_compiled.proofs.Shifts.{one_more}
use Rattle.unl_compiled.proofs.index_change.shift_all.Goals as goal

pub loop-place-preserved : goal.loop-place-preserved
loop-place-preserved c =
    let f = shifted c.args.less c.args.more in
    let places = c.args.places.now in
    let i = c.loop-place.place-index in
    let inside : i < length places = search rules in
    ap (slice_set c.loop-place.places i) c.in_ok-place.ensures
    ∙ ap (λ (ns : List ℕ). slice_set ns i (f (slice_index_or ns i 0))) c.loop-place.invariant ∙ one_more f places i inside
