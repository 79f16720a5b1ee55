use Rattle.unl_metrics.proofs.Lengths.{room_fits, no_more_room}
use Rattle.unl_metrics.proofs.Sending.{none_sent}
use Rattle.unl_metrics.proofs.laws.the_longest_prefix_is_sent.Goals as goal

pub returns-clause-none : goal.returns-clause-none
returns-clause-none c = none_sent

pub returns-clause-fits : goal.returns-clause-fits
returns-clause-fits c = room_fits

pub returns-clause-longest : goal.returns-clause-longest
returns-clause-longest c = no_more_room
