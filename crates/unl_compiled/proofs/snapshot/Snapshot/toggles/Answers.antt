use Rattle.std.proofs.lemmas.Result.{IfOk-weaker}
use Rattle.unl_compiled.proofs.NoFloats.{no_float_toggles}
use Rattle.unl_compiled.proofs.snapshot.Snapshot.toggles.Goals as goal

pub returns-clause-no_float : goal.returns-clause-no_float
returns-clause-no_float c = IfOk-weaker c.toggles_of.result _ _ (λ v is. rw is (no_float_toggles _ _ _ _)) c.toggles_of.ensures
