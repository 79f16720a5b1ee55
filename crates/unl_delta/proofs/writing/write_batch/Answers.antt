use Rattle.std.proofs.lemmas.Result.{IfOk-weaker}
use Rattle.unl_delta.proofs.NoFloats.{no_float_batch}
use Rattle.unl_delta.proofs.WrittenBack.{batch_back}
use Rattle.unl_delta.proofs.writing.write_batch.Goals as goal

pub returns-clause-reads_back : goal.returns-clause-reads_back
returns-clause-reads_back c = λ valid readable. IfOk-weaker c.write.result _ _ (λ v is. λ held. rw is (batch_back held c.args.batch.now valid readable)) c.write.ensures

pub returns-clause-no_float : goal.returns-clause-no_float
returns-clause-no_float c = IfOk-weaker c.write.result _ _ (λ v is. rw is (no_float_batch c.args.batch.now)) c.write.ensures
