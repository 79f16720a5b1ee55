use Rattle.unl_delta.proofs.Validity.{empty_is_valid}
use Rattle.unl_delta.proofs.version.EnvVersion.at.Goals as goal

pub returns-clause-valid : goal.returns-clause-valid
returns-clause-valid c = rw (c.new.ensures, c.new-2.ensures, c.new-3.ensures) (empty_is_valid c.args.epoch)
