use Rattle.std.proofs.Common.{List, ℕ, Bool, ap, ◌∙◌}
use Rattle.std.specs.List.{list_any}
use Rattle.std.specs.Str.{bytes_eq}
use Rattle.unl_constraints.proofs.Values.{member_values}
use Rattle.unl_constraints.proofs.operand.OperandOperandSide.has.Goals as goal

pub returns : goal.returns
returns c =
    let test : List ℕ → Bool = λ value. bytes_eq value c.args.text.now in
    c.is_among.ensures ∙ ap (list_any test) c.as_slice.ensures ∙ c.requires.right.same test
    ∙ ap (list_any test) (member_values c.args.constraint.now c.requires.kind)
