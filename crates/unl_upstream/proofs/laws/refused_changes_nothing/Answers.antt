use Rattle.unl_upstream.proofs.VersionLemmas.{others_are_accepted, others_result_there, refused_is_nothing}
use Rattle.unl_upstream.proofs.laws.refused_changes_nothing.Goals as goal

pub returns-clause-one : goal.returns-clause-one
returns-clause-one c command up refusal is = refused_is_nothing command up refusal is

pub returns-clause-others : goal.returns-clause-others
returns-clause-others c commands up = others_result_there commands up

pub returns-clause-again : goal.returns-clause-again
returns-clause-again c commands up = others_are_accepted commands up
