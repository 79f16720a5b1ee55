use Rattle.std.proofs.Common.{◌++◌, ◌∷◌, [], false, sym, ap, ◌∙◌}
use Rattle.std.proofs.lemmas.List.{map_more}
use Rattle.unl_tokens.specs.declared.token.Token.{Token}
use Rattle.unl_tokens.proofs.validate.no_marks.Goals as goal

pub loop-token-preserved : goal.loop-token-preserved
loop-token-preserved c =
    let inside = rw c.as_slice-token-items.ensures at c.loop-token-test.true in
    c.in_ok-push.ensures.items ∙ ap (λ marks. marks ++ false ∷ []) c.loop-token.invariant
    ∙ sym (map_more (λ (t : Token). false) c.args.tokens.now c.loop-token.token-index c.token-item.result inside)
