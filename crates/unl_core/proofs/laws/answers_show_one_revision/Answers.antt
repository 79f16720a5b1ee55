use Rattle.unl_core.proofs.Showing.{shows_revision, batch_of_line}
use Rattle.unl_core.proofs.laws.answers_show_one_revision.Goals as goal

pub returns-clause-state : goal.returns-clause-state
returns-clause-state c histories board all q kind ready is = shows_revision histories board q kind ready all is

pub returns-clause-events : goal.returns-clause-events
returns-clause-events c histories board q kind ready since batch all is answer = batch_of_line histories board q kind ready since batch all is answer
