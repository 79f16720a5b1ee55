use Rattle.unl_load.proofs.Made.{state_valid}
use Rattle.unl_load.proofs.documents.state.Goals as goal

pub returns-clause-valid : goal.returns-clause-valid
returns-clause-valid c = rw (c.in_ok-of_list.ensures, c.in_ok-features.ensures.made, c.new.ensures) (state_valid c.args.words.now)
