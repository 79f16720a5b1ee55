use Rattle.std.proofs.Common.{rules}
use Rattle.serde_json.proofs.Views.{members_len-members_view}
use Rattle.unl_metrics.proofs.reading.count_of.Goals as goal

pub returns-clause-members : goal.returns-clause-members
returns-clause-members c = rw (members_len-members_view c.args.members.now.entries) (search rules)
