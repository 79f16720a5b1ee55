use Rattle.std.proofs.Common.{◌<◌, subst, sym, ap, ◌∙◌}
use Rattle.std.proofs.lemmas.Bool.{ltb-true}
use Rattle.unl_delta.specs.State.{entry_number}
use Rattle.unl_delta.proofs.Numbers.{later_from_first}
use Rattle.unl_delta.proofs.applying.are_later.Goals as goal

pub returns-in-Some : goal.returns-in-Some
returns-in-Some c = λ is.
    let number = c.args.number in
    let above = subst (λ n. number < n) (c.number.ensures ∙ ap entry_number c.get.ensures) (ltb-true _ _ is) in
    later_from_first entry_number 0 number c.in-Some.first.now c.args.entries.now c.requires (sym c.in-Some.ensures.value) above
