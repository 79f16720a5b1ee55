use Rattle.std.proofs.lemmas.Result.{IfOk-weaker}
use Rattle.unl_delta.proofs.Delivery.{next_follows}
use Rattle.unl_delta.proofs.Validity.{next_is_valid}
use Rattle.unl_delta.proofs.applying.apply.Goals as goal

pub returns-clause-valid : goal.returns-clause-valid
returns-clause-valid c = IfOk-weaker c.next_version.result _ _ (λ v is. rw is (next_is_valid c.args.place.now c.args.batch.now c.requires.place c.requires.batch c.requires.applies)) c.next_version.ensures

pub returns-clause-represents : goal.returns-clause-represents
returns-clause-represents c = IfOk-weaker c.next_version.result _ _ (λ v is. next_follows c.args.place.now c.args.batch.now v c.requires.applies is) c.next_version.ensures
