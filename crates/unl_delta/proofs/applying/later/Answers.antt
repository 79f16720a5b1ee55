use Rattle.std.proofs.Common.{nat_lt, rules, ap, ◌∙◌}
use Rattle.std.proofs.lemmas.Fn.{filter_same}
use Rattle.unl_delta.specs.State.{entry_number, later}
use Rattle.unl_delta.proofs.applying.later.Goals as goal

pub returns : goal.returns
unfolding later
returns c =
    let number = c.args.number in
    let kept = filter_same _ (λ entry. nat_lt number (entry_number entry)) _ (λ x b f k. search rules) c.into_vec-entries.result.items c.retain.new.self.items c.retain.ensures.filtered in
    c.from_vec.ensures ∙ kept ∙ ap (later entry_number number) c.into_vec-entries.ensures
