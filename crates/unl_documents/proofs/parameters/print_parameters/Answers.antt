use Rattle.std.proofs.Common.{◌++◌, ◌∷◌, [], sym, ap, ◌∙◌}
use Rattle.json.specs.Token.{begin_object, end_object}
use Rattle.unl_documents.specs.Tokens.{pair_tokens}
use Rattle.unl_documents.proofs.Tokens.{one, then, spelled, parameters_tokens}
use Rattle.unl_documents.proofs.parameters.print_parameters.Goals as goal

pub returns : goal.returns
returns c =
    let begun = one c.in_ok-begin_object.ensures in
    let ended = one c.in_ok-end_object.ensures in
    let same = ap (λ pairs. begin_object ∷ (pair_tokens pairs ++ end_object ∷ [])) (sym c.as_slice.ensures) in
    spelled (parameters_tokens c.args.pairs.now c.requires ∙ same) (then begun (then c.in_ok-print_pairs.ensures ended))
