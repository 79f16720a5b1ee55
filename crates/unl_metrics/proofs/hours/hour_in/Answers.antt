use Rattle.std.proofs.lemmas.Result.{IfOk-weaker}
use Rattle.unl_metrics.proofs.Instants.{has_instant_if_any}
use Rattle.unl_metrics.proofs.hours.hour_in.Goals as goal

pub returns-clause-below : goal.returns-clause-below
returns-clause-below c = IfOk-weaker c.hour_of_text.result _ _ (λ hour is. has_instant_if_any c.args.text.now hour is) c.hour_of_text.ensures
