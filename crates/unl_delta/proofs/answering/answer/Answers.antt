use Rattle.std.proofs.Common.{sym}
use Rattle.std.proofs.lemmas.Result.{IfOk-weaker}
use Rattle.unl_tokens.specs.Names.{sees}
use Rattle.unl_delta.proofs.Asked.{answers_of_lines}
use Rattle.unl_delta.proofs.Validity.{answer_is_valid}
use Rattle.unl_delta.proofs.answering.answer.Goals as goal

pub returns-clause-valid : goal.returns-clause-valid
returns-clause-valid c = λ valid. IfOk-weaker c.answer_of.result _ _ (λ a is. rw is (answer_is_valid c.args.version.now c.args.since (sees c.args.projects.now) valid)) c.answer_of.ensures

pub returns-clause-sent : goal.returns-clause-sent
returns-clause-sent c = IfOk-weaker c.answer_of.result _ _ (λ a is. answers_of_lines c.args.version.now c.args.since (sees c.args.projects.now) a (sym is)) c.answer_of.ensures
