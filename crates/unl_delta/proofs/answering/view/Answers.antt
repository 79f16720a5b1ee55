use Rattle.std.proofs.lemmas.Result.{IfOk-weaker}
use Rattle.unl_tokens.specs.Names.{sees}
use Rattle.unl_delta.proofs.Asked.{seen_by_both}
use Rattle.unl_delta.proofs.Validity.{view_is_valid}
use Rattle.unl_delta.proofs.answering.view.Goals as goal

pub returns-clause-valid : goal.returns-clause-valid
returns-clause-valid c = λ valid. IfOk-weaker c.seen_state.result _ _ (λ s is. rw is (view_is_valid (sees c.args.projects.now) c.args.state.now valid)) c.seen_state.ensures

pub returns-clause-both : goal.returns-clause-both
returns-clause-both c = IfOk-weaker c.seen_state.result _ _ (λ s is. seen_by_both (sees c.args.projects.now) c.args.state.now s is) c.seen_state.ensures
