use Rattle.std.proofs.lemmas.Result.{IfOk-weaker}
use Rattle.unl_delta.proofs.Going.{feed_is_valid}
use Rattle.unl_delta.proofs.reading.of_feed.Goals as goal

pub returns-clause-valid : goal.returns-clause-valid
returns-clause-valid c = λ valid. IfOk-weaker c.one_hydration.result _ _ (λ batch is. rw is (feed_is_valid c.args.feed valid)) c.one_hydration.ensures
