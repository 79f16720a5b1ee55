use Rattle.unl_upstream.proofs.VersionLemmas.{environments_are}
use Rattle.unl_upstream.proofs.laws.environments_stay.Goals as goal

pub returns : goal.returns
returns c = environments_are
