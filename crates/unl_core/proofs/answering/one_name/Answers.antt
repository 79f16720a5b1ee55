use Rattle.std.proofs.Common.{◌∙◌, ◌++◌, ◌∷◌, [], List, ℕ, ap}
use Rattle.unl_core.proofs.answering.one_name.Goals as goal

pub returns : goal.returns
returns c =
    c.in_ok-push.ensures.ok
    ∙ ap (λ (names : List (List ℕ)). names ++ c.in_ok-name.name ∷ []) c.new-names.ensures
    ∙ ap (λ (name : List ℕ). name ∷ []) c.in_ok-name.ensures
