use Rattle.unl_delta.proofs.Installs.{batch_follows}
use Rattle.unl_delta.proofs.taking.take_batch.Goals as goal

pub returns-clause-represents : goal.returns-clause-represents
returns-clause-represents g c = batch_follows c.take.result _ _ _ _ c.requires.slot c.take.ensures.verdict c.take.ensures.taken
