use Rattle.std.proofs.Common.{rules}
use Rattle.unl_edge.proofs.same_origin_writer.turn_from.Goals as goal

pub returns-clause-asks : goal.returns-clause-asks
returns-clause-asks g c = λ opens slots few. search rules

pub returns-clause-polls : goal.returns-clause-polls
returns-clause-polls g c = λ opens slots few. search rules
