use Rattle.unl_upstream.proofs.Events.{is_history}
use Rattle.unl_upstream.proofs.VersionLemmas.{versions_follow, versions_belong_to_lines}
use Rattle.unl_upstream.proofs.laws.versions_match_history.Goals as goal

pub returns-clause-history : goal.returns-clause-history
returns-clause-history c commands = is_history commands

pub returns-clause-represents : goal.returns-clause-represents
returns-clause-represents c = versions_follow

pub returns-clause-lines : goal.returns-clause-lines
returns-clause-lines c = versions_belong_to_lines
