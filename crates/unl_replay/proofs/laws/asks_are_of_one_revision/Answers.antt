use Rattle.unl_replay.proofs.Delivering.{delivered}
use Rattle.unl_replay.proofs.laws.asks_are_of_one_revision.Goals as goal

pub returns : goal.returns
returns c bytes histories are sent = delivered bytes histories are sent
