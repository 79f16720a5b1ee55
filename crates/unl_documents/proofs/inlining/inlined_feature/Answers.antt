use Rattle.std.proofs.Common.{sym, ◌∙◌, rules}
use Rattle.std.proofs.lemmas.Result.{IfOk-weaker}
use Rattle.unl_documents.proofs.Inlined.{feature_alone}
use Rattle.unl_documents.proofs.inlining.inlined_feature.Goals as goal

pub returns-then-names_none : goal.returns-then-names_none
returns-then-names_none c = IfOk-weaker c.copy.result _ _ (λ f is. is ∙ sym (feature_alone c.args.segments.now c.args.feature.now (search rules))) c.copy.ensures
