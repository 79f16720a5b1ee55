use Rattle.unl_delta.proofs.Delivery.{taken_follows}
use Rattle.unl_delta.proofs.verdicts.verdict.Goals as goal

pub returns-clause-represents : goal.returns-clause-represents
returns-clause-represents c = taken_follows c.args.place.now c.args.batch.now c.judged.result c.judged.ensures
