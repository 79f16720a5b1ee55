use Rattle.unl_strategies.proofs.Gaps.{gap_sides}
use Rattle.unl_strategies.proofs.gap.split_at_gap.Goals as goal

pub returns : goal.returns
returns c = gap_sides c.args.text.now _ c.split_once.ensures.cases
