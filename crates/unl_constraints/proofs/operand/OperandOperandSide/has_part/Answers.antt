use Rattle.std.proofs.Common.{ap, ◌∙◌, List, ℕ}
use Rattle.std.specs.List.{list_any}
use Rattle.std.proofs.lemmas.Result.{IfOk-weaker}
use Rattle.unl_constraints.specs.Texts.{has_part_at, compared}
use Rattle.unl_constraints.proofs.Values.{part_values}
use Rattle.unl_constraints.proofs.operand.OperandOperandSide.has_part.Goals as goal

pub returns : goal.returns
returns c =
    let test = λ (value : List ℕ). has_part_at c.args.position (compared c.args.constraint.now.caseless c.args.text.now) value in
    IfOk-weaker c.has_some_part_at.result _ _ (λ r is. is ∙ ap (list_any test) c.as_slice-values.ensures ∙ c.requires.right.same test
    ∙ part_values test c.args.constraint.now c.requires.kind) c.has_some_part_at.ensures
